-- Laws of all placements.
use Rattle.std.specs.Prelude.{◌≡◌, ◌≢◌, List}
use Rattle.lucid_code.specs.Parts.{CodeParts}
use Rattle.lucid_tables.specs.Placed.{PlacedParts}
use Rattle.lucid_conf.specs.declared.limits.Limits.{Limits}
use Rattle.lucid_stages.specs.declared.stage.Pair.{Pair}
use Rattle.lucid_audit.specs.declared.error.AuditError.{AuditError}
use Rattle.lucid_audit.specs.declared.error.AuditError.TheVariants.{Memory}
use Rattle.lucid_audit.specs.Audit.{IsAudited}
use Rattle.lucid_audit.specs.Refused.{IsRefused}

-- Places give one placed code, or one cause why they are refused.
pub record AuditsAreOne : Type 0 where
  pub one : (code : CodeParts) (limits : Limits) (pairs : List Pair) (p q : PlacedParts) → IsAudited code limits pairs p → IsAudited code limits pairs q → p ≡ q
  pub never_both : (code : CodeParts) (limits : Limits) (pairs : List Pair) (p : PlacedParts) (e : AuditError) → IsAudited code limits pairs p → IsRefused code limits pairs e → e ≡ Memory
  pub one_cause : (code : CodeParts) (limits : Limits) (pairs : List Pair) (e f : AuditError) → IsRefused code limits pairs e → IsRefused code limits pairs f → e ≢ Memory → f ≢ Memory → e ≡ f
