-- The examples of specs/Examples hold by computation.
use Rattle.std.proofs.Common.{◌≡◌, ℕ, ◌<◌, ◌≤◌, inl, inr, List, [], true, false, refl, sym, ⊎_elim, arith}
use Rattle.std.proofs.lemmas.Bool.{true≢false, cases_lt}
use Rattle.lucid_merge.specs.Product.{product}
use Rattle.lucid_stages.specs.declared.stage.Pair.{Pair}
use Rattle.lucid_layout.specs.Examples.{LayoutExamples}
use Rattle.lucid_stages.specs.Examples.{at, branching, plain, places}
use Rattle.lucid_conf.specs.declared.limits.Limits.{Limits}
use Rattle.lucid_code.specs.declared.op.Op.{Op}
use Rattle.lucid_layout.specs.Fit.{Admissible, NotBefore, IsFirstFit, IsStuck}
use Rattle.lucid_stages.specs.declared.node.Work.{Work}
use Rattle.lucid_stages.specs.declared.stage.Seat.{Seat}
use Rattle.lucid_stages.specs.NodeTables.{few_on_the_way, tables_of}
use Rattle.lucid_stages.proofs.NodeTablesLaws.{too_many}
use Rattle.lucid_stages.specs.NodeWorks.{works}

never : {A : Type 0} → false ≡ true → A
never e = absurd (true≢false (sym e))

-- the first table of the first stage that may be
first_of : (k : ℕ) (q : Pair) → k ≤ q.stage → NotBefore q (at k 0)
first_of k q l = ⊎_elim (λ (b : k < q.stage). inl b) (λ (b : q.stage ≤ k). inr (omega (arith, l, b), omega arith)) (cases_lt k q.stage)

fits : IsFirstFit branching plain [] (works branching) places
unfolding product
fits = (
  record {
    holds = record { written = refl; room = record { below = omega arith; behind = tt; fits = record { table = record { next = omega arith; below = omega arith; rows = omega arith }; arrays = never } } };
    least = λ q a. first_of 0 q (omega arith);
  },
  (
    record {
      holds = record { written = refl; room = record { below = omega arith; behind = (never, tt); fits = record { table = record { next = omega arith; below = omega arith; rows = omega arith }; arrays = never } } };
      least = λ q a. first_of 0 q (omega arith);
    },
    (
      record {
        holds = record { written = refl; room = record { below = omega arith; behind = (never, ((λ e. omega arith), tt)); fits = record { table = record { next = omega arith; below = omega arith; rows = omega arith }; arrays = λ e. omega arith } } };
        least = λ q a. first_of 1 q (a.room.behind.1.0 refl);
      },
      (
        record {
          holds = record { written = refl; room = record { below = omega arith; behind = (never, ((λ e. omega arith), ((λ e. omega arith), tt))); fits = record { table = record { next = omega arith; below = omega arith; rows = omega arith }; arrays = never } } };
          least = λ q a. first_of 2 q (a.room.behind.1.1.0 refl);
        },
        (
          record {
            holds = record { written = refl; room = record { below = omega arith; behind = (never, ((λ e. omega arith), ((λ e. omega arith), (never, tt)))); fits = record { table = record { next = omega arith; below = omega arith; rows = omega arith }; arrays = never } } };
            least = λ q a. first_of 2 q (a.room.behind.1.1.0 refl);
          },
          (
            record {
              holds = record { written = refl; room = record { below = omega arith; behind = (never, ((λ e. omega arith), (never, ((λ e. omega arith), (never, tt))))); fits = record { table = record { next = omega arith; below = omega arith; rows = omega arith }; arrays = never } } };
              least = λ q a. first_of 3 q (a.room.behind.1.1.1.0 refl);
            },
            (
              record {
                holds = record { written = refl; room = record { below = omega arith; behind = (never, ((λ e. omega arith), (never, (never, ((λ e. omega arith), (never, tt)))))); fits = record { table = record { next = omega arith; below = omega arith; rows = omega arith }; arrays = never } } };
                least = λ q a. first_of 3 q (a.room.behind.1.1.1.1.0 refl);
              },
              (
                record {
                  holds = record { written = refl; room = record { below = omega arith; behind = (never, (never, (never, (never, (never, ((λ e. omega arith), ((λ e. omega arith), tt))))))); fits = record { table = record { next = omega arith; below = omega arith; rows = omega arith }; arrays = never } } };
                  least = λ q a. first_of 4 q (a.room.behind.1.1.1.1.1.0 refl);
                },
                tt,
              ),
            ),
          ),
        ),
      ),
    ),
  ),
)

-- a product of the node's first tables is too long for any table
no_row : (ops : List Op) (limits : Limits) (done : List Seat) (n : Work) (later : List Work) (p : Pair) → few_on_the_way limits.rows (tables_of ops n) ≡ false → Admissible ops limits done n later p → ⊥
no_row ops limits done n later p many a = too_many limits.rows _ (tables_of ops n) many a.room.fits.table.rows

stuck : IsStuck branching (record plain { rows = 1 }) [] (works branching) 2
unfolding product
stuck = (
  at 0 0,
  record {
    holds = record { written = refl; room = record { below = omega arith; behind = tt; fits = record { table = record { next = omega arith; below = omega arith; rows = omega arith }; arrays = never } } };
    least = λ q a. first_of 0 q (omega arith);
  },
  (
    at 0 0,
    record {
      holds = record { written = refl; room = record { below = omega arith; behind = (never, tt); fits = record { table = record { next = omega arith; below = omega arith; rows = omega arith }; arrays = never } } };
      least = λ q a. first_of 0 q (omega arith);
    },
    λ p a. no_row branching (record plain { rows = 1 }) _ _ _ p refl a,
  ),
)

pub layout_examples : LayoutExamples
unfolding product
layout_examples = record {
  valid = record { inputs = refl; arrays = refl; ops = refl; fields = refl; calls = refl; slots = refl; reads = refl };
  order = refl;
  calls = refl;
  bits = refl;
  fit = fits;
  stages = refl;
  crowded = (omega arith, omega arith, record { there = omega arith; crowded = omega arith; first = λ g l. absurd (omega (arith, l)) });
  wide = (omega arith, refl, omega arith);
  no_row_left = stuck;
}
