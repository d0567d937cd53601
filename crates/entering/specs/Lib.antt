pub mod StepIn
