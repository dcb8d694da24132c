mod FirstStages
mod Firsts
mod Growing
pub mod Widths
pub mod Places
mod AuditExamples
mod Counted
mod CountsRefuse
mod OneAudit
