mod Rows
mod StepLaws
