-- Each declaration is read behind those before; the end has read all.
use Rattle.std.proofs.Common.{rules, ◌≡◌, ◌<◌, ◌≤◌, ◌∙◌, ◌+◌, List, ℕ, ap, get_or, length, subst, sym}
use Rattle.lucid_parse_tree.specs.declared.tree.Decl.{Decl}
use Rattle.lucid_types_spec.specs.Declaration.{parts_of}
use Rattle.lucid_types_spec.specs.Makes.{IsTyped}
use Rattle.lucid_types_laws.specs.Declaration.{declaration}
use Rattle.lucid_types_declarations.specs.Known.{made_of}
use Rattle.lucid_types.proofs.Reading.{all_read, read_on, refused_here}
use Rattle.lucid_types.proofs.program.elaborate.Goals as goal

pub returns-in_err-add-clause-refused : goal.returns-in_err-add-clause-refused
returns-in_err-add-clause-refused c =
    let decides = c.the_first_refusal_is_found.ensures.found declaration c.declarations_are_computed.ensures in
    let counted = c.in_ok-number.ensures ∙ ap (λ (k : ℕ). k + 1) c.loop-x.invariant.number in
    let tells = refused_here decides c.args.tree.now c.loop-x.x-index c.in_ok-number.number c.x-item.result (made_of c.loop-x.known) (made_of c.add.new.known)
    c.in_err-add.field-0.0 c.loop-x.limits c.add.new.limits
    (subst (λ (xs : List Decl). c.loop-x.x-index < length xs) c.as_slice-x-items.ensures c.loop-x-test.true)
    (subst (λ (xs : List Decl). get_or xs c.loop-x.x-index c.x-item.result ≡ c.x-item.result) c.as_slice-x-items.ensures (sym c.x-item.is))
    counted c.loop-x.invariant.so_far c.loop-x.invariant.outs c.in_err-add.ensures in
    search (rules, tells)

pub loop-x-preserved : goal.loop-x-preserved
loop-x-preserved c =
    let decides = c.the_first_refusal_is_found.ensures.found declaration c.declarations_are_computed.ensures in
    let counted = c.in_ok-number.ensures ∙ ap (λ (k : ℕ). k + 1) c.loop-x.invariant.number in
    let both = read_on decides c.args.tree.now c.loop-x.x-index c.in_ok-number.number c.x-item.result (made_of c.loop-x.known) (made_of c.add.new.known)
    c.loop-x.limits c.add.new.limits
    (subst (λ (xs : List Decl). c.loop-x.x-index < length xs) c.as_slice-x-items.ensures c.loop-x-test.true)
    (subst (λ (xs : List Decl). get_or xs c.loop-x.x-index c.x-item.result ≡ c.x-item.result) c.as_slice-x-items.ensures (sym c.x-item.is))
    counted c.loop-x.invariant.so_far c.loop-x.invariant.outs c.in_ok-add.ensures in
    record { number = counted; so_far = both.0; outs = both.1 }

pub core_of-requires : goal.core_of-requires
core_of-requires c =
    let decides = c.the_first_refusal_is_found.ensures.found declaration c.declarations_are_computed.ensures in
    let all = subst (λ (xs : List Decl). length xs ≤ c.loop-x.x-index) c.as_slice-x-items.ensures c.loop-x-test.false in
    c.typed_programs_are_valid.ensures c.args.tree.now (parts_of (made_of c.loop-x.known))
    (all_read decides c.args.tree.now c.loop-x.x-index (made_of c.loop-x.known) all c.loop-x.invariant.so_far)

pub returns-clause-typed : goal.returns-clause-typed
returns-clause-typed c =
    let decides = c.the_first_refusal_is_found.ensures.found declaration c.declarations_are_computed.ensures in
    let all = subst (λ (xs : List Decl). length xs ≤ c.loop-x.x-index) c.as_slice-x-items.ensures c.loop-x-test.false in
    subst (IsTyped c.args.tree.now) (sym c.core_of.ensures)
    (all_read decides c.args.tree.now c.loop-x.x-index (made_of c.loop-x.known) all c.loop-x.invariant.so_far)
