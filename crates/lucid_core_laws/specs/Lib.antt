pub mod Allowed
pub mod AssigningNodes
pub mod ExprNodes
pub mod InlinedNodes
pub mod Keeps
pub mod Place
pub mod Programs
pub mod StmtNodes
