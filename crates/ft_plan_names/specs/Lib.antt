-- What callers cite.
pub mod Numbers
pub mod Laws
