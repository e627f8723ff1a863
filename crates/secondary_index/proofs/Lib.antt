mod Adds
mod Healing
mod InOrder
mod Moving
mod RowLengths
