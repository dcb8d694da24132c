-- The examples of specs/Examples hold by computation.
use Rattle.std.proofs.Common.{refl}
use Rattle.lucid_merge.specs.Examples.{ProductExamples}

pub product_examples : ProductExamples
unfolding Rattle.lucid_merge.specs.Product.product
product_examples = record {
  both = refl;
  four_rows = refl;
  three_rows = refl;
  none = refl;
  none_before = refl;
  none_behind = refl;
  one_key = refl;
  two_keys = refl;
  two_values = refl;
  asks_nothing = refl;
  includes_earlier = refl;
  includes_later = refl;
  equal_rows = refl;
  one_literal = refl;
  never = refl;
  two_values_behind = refl;
  two_values_before = refl;
}
