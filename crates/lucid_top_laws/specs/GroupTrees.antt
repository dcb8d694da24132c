-- The language without groups: trees that declare none.
use Rattle.std.specs.Prelude.{◌≡◌, ℕ, List, [], Bool, true, false, map}
use Rattle.std.specs.List.{list_all}
use Rattle.lucid_base.specs.declared.event.Event.{Event}
use Rattle.lucid_core.specs.Parts.{CoreParts}
use Rattle.lucid_core.specs.Step.{step}
use Rattle.lucid_parse_spec.specs.Spelling.{Spelled, all_of, declaration, spell}
use Rattle.lucid_parse_tree.specs.declared.tree.DeclKind.{DeclKind}
use Rattle.lucid_parse_tree.specs.declared.tree.DeclKind.TheVariants as d
use Rattle.lucid_parse_tree.specs.declared.tree.Tree.{Tree}
use Rattle.lucid_types_spec.specs.Makes.{IsTyped}
use Rattle.lucid_top_laws.specs.Groups.{Send, has_no_groups, step_with}

abbrev pub is_no_group : DeclKind → Bool
is_no_group (d.Group n members) = false
is_no_group x = true

abbrev pub declares_no_group : Tree → Bool
declares_no_group tree = list_all (λ x. is_no_group x.kind) tree.decls

-- The spelling, if that of a group is any other.
abbrev pub group_spelled_with : (List ℕ → List ℕ → Spelled) → DeclKind → Spelled
group_spelled_with other (d.Group n members) = other n members
group_spelled_with other x = declaration x

-- If a tree declares no group, its spelling does not depend on that of a group. Its core sends to no group, so its step does not depend on
-- the meaning of such a send.
pub record UndeclaredGroupsAreApart : Type 0 where
  pub spelling : (other : List ℕ → List ℕ → Spelled) (tree : Tree) → declares_no_group tree ≡ true →
      all_of (map (λ x. group_spelled_with other x.kind) tree.decls) [] ≡ spell tree
  pub typing : (tree : Tree) (core : CoreParts) → declares_no_group tree ≡ true → IsTyped tree core → has_no_groups core ≡ true
  pub step : (send : Send) (tree : Tree) (core : CoreParts) → declares_no_group tree ≡ true → IsTyped tree core →
      (cells : List (List ℕ)) (now me : ℕ) (event : Event) → step_with send core cells now me event ≡ step core cells now me event
