-- What each form of a statement is taken as, and of what a `generate` sends.
use Rattle.std.proofs.Common.{◌≡◌, ℕ, List, [], ◌∷◌, Option, None, Some, map, sym, ap, ◌∙◌}
use Rattle.lucid_parse_tree.specs.declared.tree.A.{A}
use Rattle.lucid_parse_tree.specs.declared.tree.C.{C, fold-roll-C, roll-C}
use Rattle.lucid_parse_tree.specs.declared.tree.E.{E}
use Rattle.lucid_parse_tree.specs.declared.tree.No.{No, fold-roll-No}
use Rattle.lucid_parse_tree.specs.declared.tree.No.TheOpen.{No-F, S-F}
use Rattle.lucid_parse_tree.specs.declared.tree.No.TheVariants as no
use Rattle.lucid_parse_tree.specs.declared.tree.S.{S, fold-roll-S}
use Rattle.lucid_parse_tree.specs.declared.tree.S.TheVariants as statement
use Rattle.lucid_parse_tree.specs.declared.tree.Ty.{Ty}
use Rattle.lucid_parse_tree.specs.declared.tree.V.{V, fold-roll-V}
use Rattle.lucid_parse_tree.specs.declared.tree.V.TheOpen.{V-F}
use Rattle.lucid_parse_tree.specs.declared.tree.V.TheVariants as v
use Rattle.lucid_types_spec.specs.Block.{if_of}
use Rattle.lucid_types_laws.specs.Sending.{Sends, sending_of, sends_step}
use Rattle.lucid_types_laws.specs.Statement.{Other, Taking, block, choice_step, choosing, other, other_step, statement_step, taking}

pub declare_is : (t : Ty) (n : List ℕ) (x : E) → taking (statement.Declare t n x) ≡ statement_step (S-F.Declare t n x)
declare_is t n x =
    ap taking (sym (statement.rolls-Declare t n x)) ∙ fold-roll-S Other Taking Taking other_step statement_step choice_step (S-F.Declare t n x)

pub assign_is : (n : List ℕ) (x : E) → taking (statement.Assign n x) ≡ statement_step (S-F.Assign n x)
assign_is n x =
    ap taking (sym (statement.rolls-Assign n x)) ∙ fold-roll-S Other Taking Taking other_step statement_step choice_step (S-F.Assign n x)

pub call_is : (n : List ℕ) (xs : List E) → taking (statement.Call n xs) ≡ statement_step (S-F.Call n xs)
call_is n xs =
    ap taking (sym (statement.rolls-Call n xs)) ∙ fold-roll-S Other Taking Taking other_step statement_step choice_step (S-F.Call n xs)

pub array_is : (x : A) → taking (statement.Array x) ≡ statement_step (S-F.Array x)
array_is x =
    ap taking (sym (statement.rolls-Array x)) ∙ fold-roll-S Other Taking Taking other_step statement_step choice_step (S-F.Array x)

pub cond_is : (c : C) → taking (statement.Cond c) ≡ statement_step (S-F.«S::Cond» (choosing c))
cond_is c =
    ap taking (sym (statement.rolls-Cond c)) ∙ fold-roll-S Other Taking Taking other_step statement_step choice_step (S-F.«S::Cond» c)

pub return_is : (x : Option E) → taking (statement.Return x) ≡ statement_step (S-F.Return x)
return_is x =
    ap taking (sym (statement.rolls-Return x)) ∙ fold-roll-S Other Taking Taking other_step statement_step choice_step (S-F.Return x)

pub generate_is : (x : V) → taking (statement.Generate x) ≡ statement_step (S-F.Generate x)
generate_is x =
    ap taking (sym (statement.rolls-Generate x)) ∙ fold-roll-S Other Taking Taking other_step statement_step choice_step (S-F.Generate x)

pub printf_is : (text : List ℕ) (xs : List E) → taking (statement.Printf text xs) ≡ statement_step (S-F.Printf text xs)
printf_is text xs =
    ap taking (sym (statement.rolls-Printf text xs)) ∙ fold-roll-S Other Taking Taking other_step statement_step choice_step (S-F.Printf text xs)

abbrev pub taken_cases : List (ℕ × List S) → List (ℕ × List Taking)
taken_cases cs = map (λ c. (c.0, map taking c.1)) cs

pub match_is : (x : E) (cs : List (ℕ × List S)) → taking (statement.Match x cs None) ≡ statement_step (S-F.Match x (taken_cases cs) None)
match_is x cs =
    ap taking (sym (statement.rolls-Match x cs None)) ∙ fold-roll-S Other Taking Taking other_step statement_step choice_step (S-F.Match x cs None)

pub match_last_is : (x : E) (cs : List (ℕ × List S)) (last : List S) →
    taking (statement.Match x cs (Some last)) ≡ statement_step (S-F.Match x (taken_cases cs) (Some (map taking last)))
match_last_is x cs last =
    ap taking (sym (statement.rolls-Match x cs (Some last)))
    ∙ fold-roll-S Other Taking Taking other_step statement_step choice_step (S-F.Match x cs (Some last))

pub choice_is : (x : E) (ys : List S) (z : No) →
    choosing (roll-C (record { test = x; yes = ys; no = z })) ≡ choice_step (record { test = x; yes = map taking ys; no = other z })
choice_is x ys z = fold-roll-C Other Taking Taking other_step statement_step choice_step (record { test = x; yes = ys; no = z })

pub if_is : (x : E) (ys : List S) (z : No) → taking (if_of x ys z) ≡ choice_step (record { test = x; yes = map taking ys; no = other z })
if_is x ys z = cond_is (roll-C (record { test = x; yes = ys; no = z })) ∙ choice_is x ys z

pub absent_is : other no.Absent ≡ None
absent_is = ap other (sym no.rolls-Absent) ∙ fold-roll-No Other Taking Taking other_step statement_step choice_step No-F.Absent

pub block_is : (zs : List S) → other (no.Block zs) ≡ Some (block (map taking zs))
block_is zs = ap other (sym (no.rolls-Block zs)) ∙ fold-roll-No Other Taking Taking other_step statement_step choice_step (No-F.Block zs)

pub chain_is : (c : C) → other (no.Cond c) ≡ Some (block (map taking (statement.Cond c ∷ [])))
chain_is c =
    ap other (sym (no.rolls-Cond c)) ∙ fold-roll-No Other Taking Taking other_step statement_step choice_step (No-F.«No::Cond» c)
    ∙ ap (λ (f : Taking). Some (block (f ∷ []))) (sym (cond_is c))

-- ---- events

pub paren_is : (x : V) → sending_of (v.Paren x) ≡ sends_step (V-F.Paren (sending_of x))
paren_is x = ap sending_of (sym (v.rolls-Paren x)) ∙ fold-roll-V Sends sends_step (V-F.Paren x)

pub event_is : (n : List ℕ) (xs : List E) → sending_of (v.Call n xs) ≡ sends_step (V-F.Call n xs)
event_is n xs = ap sending_of (sym (v.rolls-Call n xs)) ∙ fold-roll-V Sends sends_step (V-F.Call n xs)

pub delay_is : (x : V) (y : E) → sending_of (v.Delay x y) ≡ sends_step (V-F.Delay (sending_of x) y)
delay_is x y = ap sending_of (sym (v.rolls-Delay x y)) ∙ fold-roll-V Sends sends_step (V-F.Delay x y)

pub locate_is : (x : V) (y : E) → sending_of (v.Locate x y) ≡ sends_step (V-F.Locate (sending_of x) y)
locate_is x y = ap sending_of (sym (v.rolls-Locate x y)) ∙ fold-roll-V Sends sends_step (V-F.Locate x y)
