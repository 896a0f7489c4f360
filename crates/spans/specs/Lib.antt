pub mod Score
