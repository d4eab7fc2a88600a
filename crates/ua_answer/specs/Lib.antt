-- Certificates of answers: the certificate, without a flaw, of an answer that the command may get by itself.
pub mod Certificates
-- Questions, the commands that `cert` may precede: where their operands fail, and what they are answered.
pub mod Questions
-- What stands for the parts of a command that is built.
pub mod Few
-- What a command may be answered: a case for each form.
pub mod Replies
-- What private functions say.
pub mod inner
