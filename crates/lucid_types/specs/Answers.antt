-- The answers of the elaborator for a tree that has no core, and for one declaration.
use Rattle.std.specs.Prelude.{◌≡◌, ℕ, Option, Some, None, Result, Ok, Err}
use Rattle.lucid_base.specs.declared.memory.Memory.{Memory as WantOfMemory}
use Rattle.lucid_parse_tree.specs.declared.tree.Decl.{Decl}
use Rattle.lucid_parse_tree.specs.declared.tree.DeclKind.{DeclKind}
use Rattle.lucid_parse_tree.specs.declared.tree.Tree.{Tree}
use Rattle.lucid_types_spec.specs.declared.limit.What.{What}
use Rattle.lucid_types_spec.specs.Declaration.{Definitions, parts_of}
use Rattle.lucid_types_spec.specs.Found.{Refusal, on_made}
use Rattle.lucid_types_spec.specs.Limits.{passed}
use Rattle.lucid_types_spec.specs.Makes.{IsRefused, IsTyped}
use Rattle.lucid_types_laws.specs.Declaration.{declaration}
use Rattle.lucid_types_limits.specs.declared.limits.Limits.{Limits}
use Rattle.lucid_types_limits.specs.NewPart.{Knows}
use Rattle.lucid_types.specs.declared.error.TypeError.{TypeError}
use Rattle.lucid_types.specs.declared.error.TypeError.TheVariants.{NoRule, Limit, Memory}

-- The first declaration that is refused, with its line and the limit that it exceeds. Memory has no meaning.
abbrev pub Tells : Tree → TypeError → Type 0
Tells tree (NoRule decl line) = IsRefused tree decl line None
Tells tree (Limit what decl line) = IsRefused tree decl line (Some what)
Tells tree Memory = Unit {0}

-- The finding for declarations is this refusal.
abbrev pub IsTold : TypeError → Result Definitions Refusal → Type 0
IsTold (NoRule decl line) r = r ≡ Err (record { decl = decl; line = line; limit = None })
IsTold (Limit what decl line) r = r ≡ Err (record { decl = decl; line = line; limit = Some what })
IsTold Memory r = Unit {0}

-- For any declarations after it: they follow the parts of the declaration, or the refusal is found.
abbrev pub Adds : Result (Unit {0}) TypeError → ℕ → Decl → Definitions → Definitions → Limits → Type 0
Adds (Ok u) number x m l limits =
    ((next : Definitions → Result Definitions Refusal) → on_made number x (declaration number x.line x.kind m) next ≡ next l) × Knows l.funs limits
Adds (Err e) number x m l limits = (next : Definitions → Result Definitions Refusal) → IsTold e (on_made number x (declaration number x.line x.kind m) next)

-- The limit that a declaration with these parts exceeds; if none, the state for the next one is known.
abbrev pub Passes : Result (Option What) WantOfMemory → DeclKind → Definitions → Limits → Type 0
Passes (Ok w) x l limits = (w ≡ passed x (parts_of l)) × (w ≡ None → Knows l.funs limits)
Passes (Err e) x l limits = Unit {0}

-- For any earlier parts, after typed declarations whose outs are known: if this declaration made l of them, the limit that it exceeds.
abbrev pub Judges : Result (Option What) WantOfMemory → DeclKind → Definitions → Limits → Limits → Type 0
Judges r x l old new =
    (front : Tree) (number line : ℕ) (m : Definitions) → IsTyped front (parts_of m) → Knows m.funs old → declaration number line x m ≡ Some l → Passes r x l new
