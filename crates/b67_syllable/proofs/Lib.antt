pub mod KindLemmas
pub mod CodeLemmas
pub mod EncodingLemmas
