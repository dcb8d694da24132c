-- The flat form and the normal form of that program, and room for the nodes of its code.
use Rattle.std.proofs.Common.{◌≡◌, ◌∙◌, ◌+◌, ◌<◌, ◌≤◌, ◌⊎◌, inl, inr, ℕ, zero, suc, List, arith, subst, [], ◌∷◌, ◌++◌, Bool, true, false, ◌&&◌, None, Some, ap, length, map, nat_le, refl, sym}
use Rattle.std.proofs.lemmas.Bool.{and_parts, cases_lt, leb-true}
use Rattle.std.specs.Prelude.{⊤}
use Rattle.lucid_base.specs.Bits.{bits_of}
use Rattle.lucid_base.specs.declared.array.ArrayName.TheVariants.{Global}
use Rattle.lucid_base.specs.declared.memory_alu.MemArg.TheVariants.{Stored}
use Rattle.lucid_base.specs.declared.ops.BinOp.TheVariants as bin
use Rattle.lucid_base.specs.declared.ops.CmpOp.TheVariants.{Gt}
use Rattle.lucid_core.specs.declared.body.Stmt.{Stmt}
use Rattle.lucid_core.specs.declared.body.Expr.TheOpen.{Expr-F, Stmt-F}
use Rattle.lucid_core.specs.declared.defs.HandlerDef.{HandlerDef}
use Rattle.lucid_core.specs.ExamplePrograms.{plus}
use Rattle.lucid_core.specs.Parts.{CoreParts}
use Rattle.lucid_core.proofs.Folds.{folds}
use Rattle.lucid_code.specs.Parts.{CodeParts, made_of}
use Rattle.lucid_effects_spec.specs.Size.{flat_size, flat_stmt_size, total}
use Rattle.lucid_inline.specs.Refusals.{largest}
use Rattle.lucid_inline_spec.specs.Flat as f
use Rattle.lucid_inline_spec.specs.Flat.{Flattened, Site, flat_handler, flat_of, flat_stmt}
use Rattle.lucid_normal_spec.specs.Program.{Codes, all_codes, input_widths, start, translate}
use Rattle.lucid_normal_spec.specs.Translate as t
use Rattle.lucid_normal_spec.specs.Translate.{Expressed, Translation, guarded, is, seq, stmt_code}
use Rattle.lucid_merge.specs.Product.{product}
use Rattle.lucid_stages.specs.Counts.{CountsFit, bits_of as carried_bits, count_of, most_ops}
use Rattle.lucid_stages.specs.NodeWorks.{works}
use Rattle.lucid_top_fit.specs.Fit.{HasNormal, normal_of}
use Rattle.lucid_types_spec.specs.Typed.{returning}
use Rattle.lucid_types_spec.proofs.Rolled as rolled
use Rattle.lucid_top_laws.proofs.FlightExamples.{becomes}
use Rattle.lucid_top_laws.proofs.GeneratedCore.{steps_0, steps_1, steps_2, steps_3, steps_4, steps_5, steps_6, steps_7, across_core, core_parts, got_core, here_core, put_core, updated_core}
use Rattle.lucid_top_laws.proofs.GeneratedSettings.{limits}
use Rattle.lucid_top_laws.specs.Levels.{all_have_room}

-- A statement that calls no function is its own flat form, and so are statements.
abbrev site : Site
site = record { arrays = []; first = 0; funs = [] }

abbrev Keeps : Stmt → Type 0
Keeps x = (ws : List ℕ) → flat_stmt x site ws ≡ record { value = x ∷ []; locals = ws }

abbrev KeepAll : List Stmt → Type 0
KeepAll xs = (ws : List ℕ) → f.block (map flat_stmt xs) site ws ≡ record { value = xs; locals = ws }

got_keeps : (q : ℕ) → Keeps (got_core q)
got_keeps q ws = simp becomes refl

put_keeps : (q : ℕ) → Keeps (put_core q)
put_keeps q ws = simp becomes refl

updated_keeps : (q above : ℕ) → Keeps (updated_core q above)
updated_keeps q above ws = simp becomes refl

here_keeps : (j delay : ℕ) → Keeps (here_core j delay)
here_keeps j delay ws = simp becomes refl

across_keeps : (j delay : ℕ) → Keeps (across_core j delay)
across_keeps j delay ws = simp becomes refl

none_keep : KeepAll []
none_keep ws = refl

more_keep : (x : Stmt) (xs : List Stmt) → Keeps x → KeepAll xs → KeepAll (x ∷ xs)
more_keep x xs one all ws = rw (one ws, all ws) refl

handler_keeps : (h : HandlerDef) → KeepAll h.body → flat_handler [] h ≡ h
handler_keeps h all = ap (λ (m : Flattened (List Stmt)). record h { locals = m.locals; body = m.value }) (all h.locals)

-- ---- each statement's translation

abbrev number_code : ℕ → Expressed
number_code n = t.expr_step (Expr-F.Fixed (bits_of 32 n))

abbrev local_code : ℕ → Expressed
local_code j = t.expr_step (Expr-F.Local j)

abbrev answer_code : ℕ → Expressed → Translation ⊤
answer_code q x = t.stmt_step (Stmt-F.Assign 1 (t.expr_step (Expr-F.Array (t.touch_step (record { array = Global q; index = local_code 0; get = plus; get_arg = x; set = returning 32 Stored; set_arg = number_code 0; answers = true })))))

abbrev got_code : ℕ → Translation ⊤
got_code q = answer_code q (local_code 1)

abbrev put_code : ℕ → Translation ⊤
put_code q = t.stmt_step (Stmt-F.Drop (t.expr_step (Expr-F.Array (t.touch_step (record { array = Global q; index = local_code 0; get = returning 32 Stored; get_arg = number_code 0; set = plus; set_arg = local_code 1; answers = false })))))

abbrev updated_code : ℕ → ℕ → Translation ⊤
updated_code q above = t.stmt_step (Stmt-F.If (t.expr_step (Expr-F.Cmp Gt (local_code 1) (number_code above)))
    (t.stmt_step (Stmt-F.Assign 1 (t.expr_step (Expr-F.Array (t.touch_step (record { array = Global q; index = local_code 0; get = plus; get_arg = number_code 1; set = plus; set_arg = local_code 1; answers = true }))))) ∷ []) [])

abbrev arguments_code : List Expressed
arguments_code = t.expr_step (Expr-F.Bin bin.Add (local_code 0) (number_code 1)) ∷ local_code 1 ∷ []

abbrev here_code : ℕ → ℕ → Translation ⊤
here_code j delay = t.stmt_step (Stmt-F.Gen j arguments_code (Some (number_code delay)) None false)

abbrev across_code : ℕ → ℕ → Translation ⊤
across_code j delay = t.stmt_step (Stmt-F.Gen j arguments_code (Some (number_code delay)) (Some (t.expr_step (Expr-F.Bin bin.Xor (t.expr_step Expr-F.Me) (number_code 1)))) true)

got_coded : (q : ℕ) → stmt_code (got_core q) ≡ got_code q
got_coded q = simp folds refl

put_coded : (q : ℕ) → stmt_code (put_core q) ≡ put_code q
put_coded q = simp folds refl

updated_coded : (q above : ℕ) → stmt_code (updated_core q above) ≡ updated_code q above
updated_coded q above = simp folds refl

here_coded : (j delay : ℕ) → stmt_code (here_core j delay) ≡ here_code j delay
here_coded j delay = simp folds refl

across_coded : (j delay : ℕ) → stmt_code (across_core j delay) ≡ across_code j delay
across_coded j delay = simp folds refl

keep_0 : KeepAll steps_0
keep_0 = more_keep _ _ (updated_keeps 1 9) (more_keep _ _ (got_keeps 2) (more_keep _ _ (put_keeps 5) (more_keep _ _ (updated_keeps 6 59) (more_keep _ _ (across_keeps 0 17) none_keep))))

abbrev codes_0 : List (Translation ⊤)
codes_0 = updated_code 1 9 ∷ got_code 2 ∷ put_code 5 ∷ updated_code 6 59 ∷ across_code 0 17 ∷ []

coded_0 : map stmt_code steps_0 ≡ codes_0
coded_0 = rolled.parts (updated_coded 1 9) (rolled.parts (got_coded 2) (rolled.parts (put_coded 5) (rolled.parts (updated_coded 6 59) (rolled.parts (across_coded 0 17) refl))))

keep_1 : KeepAll steps_1
keep_1 = more_keep _ _ (put_keeps 1) (more_keep _ _ (got_keeps 4) (more_keep _ _ (across_keeps 4 37) none_keep))

abbrev codes_1 : List (Translation ⊤)
codes_1 = put_code 1 ∷ got_code 4 ∷ across_code 4 37 ∷ []

coded_1 : map stmt_code steps_1 ≡ codes_1
coded_1 = rolled.parts (put_coded 1) (rolled.parts (got_coded 4) (rolled.parts (across_coded 4 37) refl))

keep_2 : KeepAll steps_2
keep_2 = more_keep _ _ (updated_keeps 6 915) (more_keep _ _ (updated_keeps 7 615) (more_keep _ _ (across_keeps 3 8) none_keep))

abbrev codes_2 : List (Translation ⊤)
codes_2 = updated_code 6 915 ∷ updated_code 7 615 ∷ across_code 3 8 ∷ []

coded_2 : map stmt_code steps_2 ≡ codes_2
coded_2 = rolled.parts (updated_coded 6 915) (rolled.parts (updated_coded 7 615) (rolled.parts (across_coded 3 8) refl))

keep_3 : KeepAll steps_3
keep_3 = more_keep _ _ (updated_keeps 1 998) (more_keep _ _ (put_keeps 6) (more_keep _ _ (across_keeps 1 58) none_keep))

abbrev codes_3 : List (Translation ⊤)
codes_3 = updated_code 1 998 ∷ put_code 6 ∷ across_code 1 58 ∷ []

coded_3 : map stmt_code steps_3 ≡ codes_3
coded_3 = rolled.parts (updated_coded 1 998) (rolled.parts (put_coded 6) (rolled.parts (across_coded 1 58) refl))

keep_4 : KeepAll steps_4
keep_4 = more_keep _ _ (got_keeps 0) (more_keep _ _ (across_keeps 5 91) none_keep)

abbrev codes_4 : List (Translation ⊤)
codes_4 = got_code 0 ∷ across_code 5 91 ∷ []

coded_4 : map stmt_code steps_4 ≡ codes_4
coded_4 = rolled.parts (got_coded 0) (rolled.parts (across_coded 5 91) refl)

keep_5 : KeepAll steps_5
keep_5 = more_keep _ _ (got_keeps 0) (more_keep _ _ (updated_keeps 1 309) (more_keep _ _ (updated_keeps 3 652) (more_keep _ _ (updated_keeps 4 726) (more_keep _ _ (got_keeps 6) (more_keep _ _ (here_keeps 7 64) none_keep)))))

abbrev codes_5 : List (Translation ⊤)
codes_5 = got_code 0 ∷ updated_code 1 309 ∷ updated_code 3 652 ∷ updated_code 4 726 ∷ got_code 6 ∷ here_code 7 64 ∷ []

coded_5 : map stmt_code steps_5 ≡ codes_5
coded_5 = rolled.parts (got_coded 0) (rolled.parts (updated_coded 1 309) (rolled.parts (updated_coded 3 652) (rolled.parts (updated_coded 4 726) (rolled.parts (got_coded 6) (rolled.parts (here_coded 7 64) refl)))))

keep_6 : KeepAll steps_6
keep_6 = more_keep _ _ (updated_keeps 0 812) (more_keep _ _ (put_keeps 3) (more_keep _ _ (got_keeps 5) (more_keep _ _ (got_keeps 6) (more_keep _ _ (across_keeps 4 49) none_keep))))

abbrev codes_6 : List (Translation ⊤)
codes_6 = updated_code 0 812 ∷ put_code 3 ∷ got_code 5 ∷ got_code 6 ∷ across_code 4 49 ∷ []

coded_6 : map stmt_code steps_6 ≡ codes_6
coded_6 = rolled.parts (updated_coded 0 812) (rolled.parts (put_coded 3) (rolled.parts (got_coded 5) (rolled.parts (got_coded 6) (rolled.parts (across_coded 4 49) refl))))

keep_7 : KeepAll steps_7
keep_7 = more_keep _ _ (got_keeps 1) (more_keep _ _ (updated_keeps 2 519) (more_keep _ _ (updated_keeps 3 731) (more_keep _ _ (updated_keeps 4 318) (more_keep _ _ (got_keeps 5) (more_keep _ _ (put_keeps 6) (more_keep _ _ (across_keeps 6 96) none_keep))))))

abbrev codes_7 : List (Translation ⊤)
codes_7 = got_code 1 ∷ updated_code 2 519 ∷ updated_code 3 731 ∷ updated_code 4 318 ∷ got_code 5 ∷ put_code 6 ∷ across_code 6 96 ∷ []

coded_7 : map stmt_code steps_7 ≡ codes_7
coded_7 = rolled.parts (got_coded 1) (rolled.parts (updated_coded 2 519) (rolled.parts (updated_coded 3 731) (rolled.parts (updated_coded 4 318) (rolled.parts (got_coded 5) (rolled.parts (put_coded 6) (rolled.parts (across_coded 6 96) refl))))))

flat_is : flat_of core_parts ≡ core_parts
flat_is = ap (λ (hs : List HandlerDef). record core_parts { funs = []; handlers = hs })
    (rolled.parts (handler_keeps (record { event = 0; locals = 32 ∷ 32 ∷ []; body = steps_0; decl = 18; line = 18 }) keep_0)
    (rolled.parts (handler_keeps (record { event = 1; locals = 32 ∷ 32 ∷ []; body = steps_1; decl = 19; line = 25 }) keep_1)
    (rolled.parts (handler_keeps (record { event = 2; locals = 32 ∷ 32 ∷ []; body = steps_2; decl = 20; line = 30 }) keep_2)
    (rolled.parts (handler_keeps (record { event = 3; locals = 32 ∷ 32 ∷ []; body = steps_3; decl = 21; line = 35 }) keep_3)
    (rolled.parts (handler_keeps (record { event = 4; locals = 32 ∷ 32 ∷ []; body = steps_4; decl = 22; line = 40 }) keep_4)
    (rolled.parts (handler_keeps (record { event = 5; locals = 32 ∷ 32 ∷ []; body = steps_5; decl = 23; line = 44 }) keep_5)
    (rolled.parts (handler_keeps (record { event = 6; locals = 32 ∷ 32 ∷ []; body = steps_6; decl = 24; line = 52 }) keep_6)
    (rolled.parts (handler_keeps (record { event = 7; locals = 32 ∷ 32 ∷ []; body = steps_7; decl = 25; line = 59 }) keep_7)
    (refl)))))))))

-- ---- the program's code

-- The code of handlers, if their bodies are translated so.
abbrev codes_by : CoreParts → List ℕ → List HandlerDef → List (List (Translation ⊤)) → Codes
codes_by parts widths [] ts = record { ops = []; widths = widths; fine = true }
codes_by parts widths (h ∷ hs) [] = record { ops = []; widths = widths; fine = true }
codes_by parts widths (h ∷ hs) (ts ∷ tss) =
    let a = seq ts (start parts widths h) in
    let r = codes_by parts a.env.widths hs tss in
    record { ops = map (guarded (is 0 h.event)) a.ops ++ r.ops; widths = r.widths; fine = a.fine && r.fine }

abbrev all_translated : List (List (Translation ⊤))
all_translated = codes_0 ∷ codes_1 ∷ codes_2 ∷ codes_3 ∷ codes_4 ∷ codes_5 ∷ codes_6 ∷ codes_7 ∷ []

abbrev all_made : Codes
all_made = codes_by core_parts (input_widths core_parts) core_parts.handlers all_translated

translated : map (λ (h : HandlerDef). map stmt_code h.body) core_parts.handlers ≡ all_translated
translated = rolled.parts coded_0 (rolled.parts coded_1 (rolled.parts coded_2 (rolled.parts coded_3 (rolled.parts coded_4 (rolled.parts coded_5 (rolled.parts coded_6 (rolled.parts coded_7 (refl))))))))

all_codes_are : all_codes core_parts ≡ all_made
all_codes_are = ap (codes_by core_parts (input_widths core_parts) core_parts.handlers) translated

abbrev pub code : CodeParts
code = made_of all_made.widths (record { event = 0; now = 1; me = 2; args = 2 }) core_parts.arrays all_made.ops

pub op_count : length code.ops ≡ 106
op_count = refl

pub normal_is : normal_of core_parts ≡ code
normal_is = ap translate flat_is
    ∙ ap (λ (all : Codes). made_of all.widths (record { event = 0; now = 1; me = 2; args = 2 }) core_parts.arrays all.ops) all_codes_are

-- ---- its size

got_sized : (q : ℕ) → flat_stmt_size (got_core q) ≡ 1
got_sized q = simp folds refl

put_sized : (q : ℕ) → flat_stmt_size (put_core q) ≡ 1
put_sized q = simp folds refl

updated_sized : (q above : ℕ) → flat_stmt_size (updated_core q above) ≡ 2
updated_sized q above = simp folds refl

here_sized : (j delay : ℕ) → flat_stmt_size (here_core j delay) ≡ 1
here_sized j delay = simp folds refl

across_sized : (j delay : ℕ) → flat_stmt_size (across_core j delay) ≡ 1
across_sized j delay = simp folds refl

sized_0 : map flat_stmt_size steps_0 ≡ 2 ∷ 1 ∷ 1 ∷ 2 ∷ 1 ∷ []
sized_0 = rolled.parts (updated_sized 1 9) (rolled.parts (got_sized 2) (rolled.parts (put_sized 5) (rolled.parts (updated_sized 6 59) (rolled.parts (across_sized 0 17) refl))))

sized_1 : map flat_stmt_size steps_1 ≡ 1 ∷ 1 ∷ 1 ∷ []
sized_1 = rolled.parts (put_sized 1) (rolled.parts (got_sized 4) (rolled.parts (across_sized 4 37) refl))

sized_2 : map flat_stmt_size steps_2 ≡ 2 ∷ 2 ∷ 1 ∷ []
sized_2 = rolled.parts (updated_sized 6 915) (rolled.parts (updated_sized 7 615) (rolled.parts (across_sized 3 8) refl))

sized_3 : map flat_stmt_size steps_3 ≡ 2 ∷ 1 ∷ 1 ∷ []
sized_3 = rolled.parts (updated_sized 1 998) (rolled.parts (put_sized 6) (rolled.parts (across_sized 1 58) refl))

sized_4 : map flat_stmt_size steps_4 ≡ 1 ∷ 1 ∷ []
sized_4 = rolled.parts (got_sized 0) (rolled.parts (across_sized 5 91) refl)

sized_5 : map flat_stmt_size steps_5 ≡ 1 ∷ 2 ∷ 2 ∷ 2 ∷ 1 ∷ 1 ∷ []
sized_5 = rolled.parts (got_sized 0) (rolled.parts (updated_sized 1 309) (rolled.parts (updated_sized 3 652) (rolled.parts (updated_sized 4 726) (rolled.parts (got_sized 6) (rolled.parts (here_sized 7 64) refl)))))

sized_6 : map flat_stmt_size steps_6 ≡ 2 ∷ 1 ∷ 1 ∷ 1 ∷ 1 ∷ []
sized_6 = rolled.parts (updated_sized 0 812) (rolled.parts (put_sized 3) (rolled.parts (got_sized 5) (rolled.parts (got_sized 6) (rolled.parts (across_sized 4 49) refl))))

sized_7 : map flat_stmt_size steps_7 ≡ 1 ∷ 2 ∷ 2 ∷ 2 ∷ 1 ∷ 1 ∷ 1 ∷ []
sized_7 = rolled.parts (got_sized 1) (rolled.parts (updated_sized 2 519) (rolled.parts (updated_sized 3 731) (rolled.parts (updated_sized 4 318) (rolled.parts (got_sized 5) (rolled.parts (put_sized 6) (rolled.parts (across_sized 6 96) refl))))))

abbrev sum_of : List (List ℕ) → ℕ
sum_of [] = 0
sum_of (ns ∷ nss) = total ns + sum_of nss

abbrev sizes : List (List ℕ)
sizes =
    (2 ∷ 1 ∷ 1 ∷ 2 ∷ 1 ∷ [])
    ∷ (1 ∷ 1 ∷ 1 ∷ [])
    ∷ (2 ∷ 2 ∷ 1 ∷ [])
    ∷ (2 ∷ 1 ∷ 1 ∷ [])
    ∷ (1 ∷ 1 ∷ [])
    ∷ (1 ∷ 2 ∷ 2 ∷ 2 ∷ 1 ∷ 1 ∷ [])
    ∷ (2 ∷ 1 ∷ 1 ∷ 1 ∷ 1 ∷ [])
    ∷ (1 ∷ 2 ∷ 2 ∷ 2 ∷ 1 ∷ 1 ∷ 1 ∷ [])
    ∷ []

sized : map (λ (h : HandlerDef). map flat_stmt_size h.body) core_parts.handlers ≡ sizes
sized = rolled.parts sized_0 (rolled.parts sized_1 (rolled.parts sized_2 (rolled.parts sized_3 (rolled.parts sized_4 (rolled.parts sized_5 (rolled.parts sized_6 (rolled.parts sized_7 refl)))))))

size_is : flat_size core_parts ≡ 46
size_is = ap sum_of sized

pub has_normal : HasNormal core_parts
has_normal = record {
  ops = subst (λ (c : CodeParts). length c.ops ≤ most_ops) (sym normal_is) (subst (λ (k : ℕ). k ≤ most_ops) (sym op_count) (omega arith));
  size = subst (λ (k : ℕ). k ≤ largest) (sym (ap flat_size flat_is ∙ size_is)) (omega arith);
}

-- ---- its places

-- Each of the first numbers has at most this value.
abbrev all_at_most : (ℕ → ℕ) → ℕ → ℕ → Bool
all_at_most f most zero = true
all_at_most f most (suc n) = nat_le (f n) most && all_at_most f most n

each_at_most : (f : ℕ → ℕ) (most n : ℕ) → all_at_most f most n ≡ true → (k : ℕ) → k < n → f k ≤ most
each_at_most f most zero all k less = absurd (omega (arith, less))
each_at_most f most (suc n) all k less = by (cases_lt k n) (λ before. each_at_most f most n (and_parts (nat_le (f n) most) (all_at_most f most n) all).1 k before)
  where
    by : (k < n) ⊎ (n ≤ k) → (k < n → f k ≤ most) → f k ≤ most
    by (inl before) rest = rest before
    by (inr last) rest =
        let same : n ≡ k = omega (arith, less, last) in
        subst (λ (j : ℕ). f j ≤ most) same (leb-true (f n) most (and_parts (nat_le (f n) most) (all_at_most f most n) all).0)

bits_are : carried_bits code ≡ 2380
bits_are = refl

few_calls : all_at_most (count_of code) 8 8 ≡ true
few_calls = refl

pub counts : CountsFit code limits
counts = record {
  ops = subst (λ (n : ℕ). n ≤ most_ops) (sym op_count) (omega arith);
  bits = subst (λ (n : ℕ). n ≤ limits.bits) (sym bits_are) (omega arith);
  arms = each_at_most (count_of code) 8 8 few_calls;
}

pub room : all_have_room code.ops limits [] (works code.ops) ≡ true
unfolding product
room = refl
