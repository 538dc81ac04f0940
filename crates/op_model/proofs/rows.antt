mod Worked
mod TextRows
mod AnchorRows
mod AnswerRows
mod StepRows
mod LawfulRows
mod ExampleRows
