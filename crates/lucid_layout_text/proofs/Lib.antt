mod ArraysThere
mod Puts
mod TextExamples
