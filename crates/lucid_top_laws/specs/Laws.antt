-- The answers of a question: words, the contents of the files that they name, and passes.
use Rattle.lucid_top.specs.Answer.{Answers, IsTold, Question}
use Rattle.lucid_top_words.specs.Outcome.{Alike, Outcome}

-- Any two answers of a question are alike: the same text, or the same refusal. Only the cycle may differ that a program is refused with whose
-- arrays are not in order.
abbrev pub AnswersAreOne : Type 0
AnswersAreOne = (q : Question) (o p : Outcome) → Answers q o → Answers q p → Alike o p

-- Every question whose files have specified contents has an answer.
abbrev pub AnswersAreThere : Type 0
AnswersAreThere = (q : Question) → IsTold q → (o : Outcome) × Answers q o
