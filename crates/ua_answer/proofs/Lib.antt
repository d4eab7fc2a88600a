mod Certifying
mod CertificatesExist
mod QuestionsExist
mod RepliesExist
