mod ChosenItems
mod ClearTexts
mod LineCuts
mod RightLines
mod ToldLemmas
mod Verdicts
mod WholeTexts
