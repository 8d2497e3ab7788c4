pub mod SentLemmas
pub mod ToldLemmas
pub mod InboxLemmas
pub mod NoteLemmas
pub mod ChainLemmas
pub mod ReportLemmas
pub mod PackageLemmas
