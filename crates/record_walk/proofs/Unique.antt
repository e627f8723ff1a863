-- A pointer has one tree at most.
use Rattle.record_walk.specs.Changes.{Unique}
use Rattle.record_walk.specs.OneProof.{unique, unique_in}

pub trees_are_unique : Unique
trees_are_unique = record { twins = unique; chains = unique_in }
