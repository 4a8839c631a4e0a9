pub mod LeadLemmas
pub mod Lists
pub mod MemberLemmas
pub mod NameLemmas
pub mod NumberLemmas
pub mod TypeLemmas
