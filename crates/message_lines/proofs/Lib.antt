mod ReadBack
mod Skipping
