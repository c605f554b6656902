-- The texts of accounts. A text is a list of bytes in their own order; an account has its newest entry first.
pub mod text
pub mod Account
