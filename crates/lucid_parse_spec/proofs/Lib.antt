mod Calls
mod Declarations
mod Equations
mod ExpressionComplete
mod ExpressionSound
mod Growth
mod Levels
mod Repeats
mod StatementComplete
mod StatementEquations
mod StatementGrowth
mod StatementSound
pub mod Steps
