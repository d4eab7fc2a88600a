-- What a JSON value is as a certificate, or the first field that is none.
pub mod Reading
-- How long the lists of a certificate are.
pub mod Lengths
-- The certificate that a JSON value is, or the first field that is none.
pub mod Certificates
-- The JSON value that a certificate is written as, and its text.
pub mod Writing
-- What private functions say.
pub mod inner
