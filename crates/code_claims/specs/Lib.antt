-- What the exported functions' codes say: definitions, laws, claims.
pub mod Coded
