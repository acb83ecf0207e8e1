pub mod MadeLogs
