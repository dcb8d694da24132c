-- The direct parts of a node of a body: each part once, of an event the delay before the target, in any order of evaluation. A rule that
-- takes its children from here must not depend on their order.
use Rattle.std.specs.Prelude.{[], ◌∷◌, ◌++◌, List, map}
use Rattle.std.specs.Option.{option_to_list}
use Rattle.lucid_core.specs.declared.body.Expr.TheOpen.{Expr-F, Stmt-F, Touch-F}

abbrev pub expr_children : {A : Type 0} → Expr-F A A A → List A
expr_children (Expr-F.Un op x) = x ∷ []
expr_children (Expr-F.Bin op x y) = x ∷ y ∷ []
expr_children (Expr-F.Cmp op x y) = x ∷ y ∷ []
expr_children (Expr-F.Cast w x) = x ∷ []
expr_children (Expr-F.Hash w xs) = xs
expr_children (Expr-F.Array t) = t ∷ []
expr_children (Expr-F.Fun k names xs) = xs
expr_children (Expr-F.Inlined given ss) = map (λ g. g.1) given ++ ss
expr_children _ = []

abbrev pub touch_children : {A : Type 0} → Touch-F A A A → List A
touch_children t = t.index ∷ t.get_arg ∷ t.set_arg ∷ []

abbrev pub stmt_children : {A : Type 0} → Stmt-F A A A → List A
stmt_children (Stmt-F.Assign i x) = x ∷ []
stmt_children (Stmt-F.Drop x) = x ∷ []
stmt_children (Stmt-F.If x ss ts) = x ∷ (ss ++ ts)
stmt_children (Stmt-F.Gen event xs delay to delay_first) = xs ++ option_to_list delay ++ option_to_list to
stmt_children (Stmt-F.Multi event xs delay members) = xs ++ option_to_list delay
stmt_children (Stmt-F.Say form xs) = xs
stmt_children (Stmt-F.Return x) = option_to_list x
