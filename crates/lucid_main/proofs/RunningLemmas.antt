-- The headline, by how the call of the program ended.
use Rattle.std.proofs.Common.{◌≡◌, ◌⊎◌, inl, inr, ℕ, List, [], ◌∷◌, Result, Ok, Err, IfErr, IfOk, fold, map, refl, sym, subst, arith}
use Rattle.std.proofs.KnownBytes.{Appends-nil}
use Rattle.lucid_code.specs.Parts.{CodeParts}
use Rattle.lucid_io.specs.Counts.{Rose}
use Rattle.lucid_pass.specs.Through.{through}
use Rattle.lucid_top_fit.specs.Fit.{composed, normal_of}
use Rattle.lucid_top_fit.specs.Passes.{PassView}
use Rattle.lucid_top.proofs.Headlines.{MakeSame, Makes}
use Rattle.lucid_top.proofs.Laws as laws
use Rattle.lucid_top.specs.Headline.{Accepted, FirstFitPlaces, Three, code_by, network_log, read_three, run_pipe}
use Rattle.lucid_top_words.proofs.Seen.{All, Prefix}
use Rattle.lucid_top_words.specs.declared.status.Status.{Status}
use Rattle.lucid_top_words.specs.declared.status.Status.TheVariants as status
use Rattle.lucid_top_words.specs.Views.{FilesView, SinkView}
use Rattle.lucid_main.specs.Answered.{Called, our_makes}

-- passes with these functions make what the functions make
through-makes : (passes : List PassView) (code : CodeParts) →
    fold (λ now (make : CodeParts → CodeParts). make now) code (map (λ p. p.gives.makes) passes) ≡ through (map PassView.gives passes) code
through-makes [] code = refl
through-makes (p ∷ passes) code = through-makes passes (p.gives.makes code)

make-ours : (passes : List PassView) → map (λ p. p.gives.makes) passes ≡ our_makes → MakeSame our_makes passes
make-ours passes are core = subst (λ (makes : Makes). code_by makes core ≡ (composed core passes).code) are (through-makes passes (normal_of core))

pub piped : {words : List (List ℕ)} {files files' : FilesView} {out out' err err' : SinkView} {s : Status} → Called words files files' out out' err err' s → (names texts : Three) → words ≡ run_pipe names →
    files'.heard ≡ read_three names texts files.heard → (a : Accepted texts) → FirstFitPlaces our_makes a → ¬ Rose out.faults out'.faults →
    ((s ≡ status.Ok) × All out out' (network_log a)) ⊎ ((s ≡ status.Memory) × Prefix out out' (network_log a))
piped {words} {files} {files'} {out} {out'} {err} {err'} {s} called names texts is heard a f unmet =
    elim called [
      | inl ours ↦ laws.pipe_by_word-clause ours.ended (make-ours ours.passes ours.are.makes) names texts heard a f unmet is
      | inr none ↦
          inr (
            none.status,
            subst (λ (o : SinkView). Prefix out o (network_log a)) (sym none.out_stays)
                (record { count = 0; within = omega arith; bytes = Appends-nil out.written; quiet = refl }),
          )
    ]

-- ---- what follows of a value, or of an error

pub if_ok_then : {T E : Type 0} {P Q : T → Type 0} (r : Result T E) → IfOk r P → ((x : T) → P x → Q x) → IfOk r Q
if_ok_then (Ok x) is step = step x is
if_ok_then (Err e) is step = tt

pub if_err_then : {T E : Type 0} {P Q : E → Type 0} (r : Result T E) → IfErr r P → ((e : E) → P e → Q e) → IfErr r Q
if_err_then (Ok x) is step = tt
if_err_then (Err e) is step = step e is

pub if_ok_at : {T E : Type 0} (r : Result T E) (P : T → Type 0) (x : T) → r ≡ Ok x → P x → IfOk r P
if_ok_at {T} {E} r P x is p = subst (λ (s : Result T E). IfOk s P) (sym is) p

pub if_err_at : {T E : Type 0} (r : Result T E) (P : E → Type 0) (e : E) → r ≡ Err e → P e → IfErr r P
if_err_at {T} {E} r P e is p = subst (λ (s : Result T E). IfErr s P) (sym is) p
