mod Small
mod Schedules
mod Alone
pub mod Lists
pub mod Tests
pub mod Journals
pub mod Options
pub mod Sound
pub mod Given
pub mod PharmacyStep
pub mod Written
pub mod Decided
pub mod SwitchStep
pub mod PayerStep
pub mod Runs
pub mod Held
pub mod Whole
pub mod Marks
pub mod Ledger
pub mod Books
pub mod Firm
pub mod Owners
pub mod Providers
pub mod Counting
pub mod CountedInFull
pub mod Stays
pub mod Phases
pub mod Rules
pub mod Addressed
pub mod Posts
pub mod Deliverable
pub mod Advising
mod Premises
pub mod BytesLaws
pub mod Sayings
mod Advices
pub mod Placeless
pub mod AnswersBack
pub mod Tabled
pub mod Names
pub mod Steps
pub mod Ends
pub mod Serving
pub mod Replaying
pub mod Posting
pub mod GoingOn
pub mod Walking
pub mod Finding
