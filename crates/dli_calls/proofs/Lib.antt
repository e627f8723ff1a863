pub mod DecisionLaws
