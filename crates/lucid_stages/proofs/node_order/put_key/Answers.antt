use Rattle.std.proofs.Common.{◌∙◌, ap, subst, nat_cmp}
use Rattle.std.specs.List.Sorted.{IsBinarySearchResult}
use Rattle.lucid_tables.specs.Numbers.{rises}
use Rattle.lucid_tables.proofs.Rising.{Put, put_found, with_number_rises}
use Rattle.lucid_stages.proofs.node_order.put_key.Goals as goal

pub returns-in-Ok : goal.returns-in-Ok
returns-in-Ok c =
    let found = subst (λ xs. IsBinarySearchResult (λ y. nat_cmp y c.args.key) xs c.binary_search.result) c.deref.ensures.value c.binary_search.ensures.position in
    record {
      value = subst (Put c.args.keys.now.items c.args.key) c.in-Ok.is (put_found c.args.keys.now.items c.args.key c.binary_search.result c.requires found);
      rises = c.requires;
    }

pub returns-in_ok-insert-in-Err : goal.returns-in_ok-insert-in-Err
returns-in_ok-insert-in-Err c =
    let found = subst (λ xs. IsBinarySearchResult (λ y. nat_cmp y c.args.key) xs c.binary_search.result) c.deref.ensures.value c.binary_search.ensures.position in
    let put = c.in_ok-insert-in-Err.ensures.items ∙ subst (Put c.args.keys.now.items c.args.key) c.in-Err.is (put_found c.args.keys.now.items c.args.key c.binary_search.result c.requires found) in
    record {
      value = put;
      rises = ap rises put ∙ with_number_rises c.args.keys.now.items c.args.key c.requires;
    }
