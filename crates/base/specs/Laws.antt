-- That the two agreements obey the laws of base agreements; an implementation cites its proofs of them from here.
pub mod Alone
pub mod Keeping
pub mod Folding
pub mod Gathering
pub mod Leading
pub mod Placing
pub mod Relaying
pub mod Agreeing
pub mod Spending
