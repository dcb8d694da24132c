-- `layout P L`: first fit in the stages of a target, and the number of operations that each pass removed before.
use Rattle.std.specs.Prelude.{◌≡◌, ℕ, List, [], ◌∷◌, ◌++◌, Ok, codes, decimal, map}
use Rattle.lucid_layout_text.specs.Text.{layout_text}
use Rattle.lucid_top.specs.Pipes.{IsPiped}
use Rattle.lucid_top_fit.specs.Fit.{Fit}
use Rattle.lucid_top_fit.specs.Passes.{PassView}
use Rattle.lucid_top_words.specs.Outcome.{FollowedBy, Outcome}
use Rattle.lucid_top_words.specs.Words.{Bytes}

-- a pass, and how many operations went in it in this call
abbrev pub pass_line : Bytes → ℕ → Bytes
pass_line name gone = codes "pass " ++ name ++ codes " removed " ++ decimal gone ++ codes "\n"

abbrev pub passes_text : List Bytes → List ℕ → Bytes
passes_text [] gone = []
passes_text (name ∷ names) [] = []
passes_text (name ∷ names) (n ∷ gone) = pass_line name n ++ passes_text names gone

-- the lines of the passes of these names, and then those of the layout
abbrev pub fit_text : List Bytes → Fit → Bytes
fit_text names fit = passes_text names fit.gone ++ layout_text fit.placed

-- the layout by the texts of the two files
abbrev pub LayoutAnswers : Bytes → Bytes → List PassView → Outcome → Type 0
LayoutAnswers program limits passes o =
    FollowedBy (IsPiped program limits passes) (λ p text. text ≡ Ok (fit_text (map PassView.name passes) p.fitted)) o
