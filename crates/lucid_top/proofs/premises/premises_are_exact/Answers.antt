use Rattle.lucid_top.proofs.Headlines.{is-program}
use Rattle.lucid_top.proofs.PremisesLemmas.{audits, fits, has-core}
use Rattle.lucid_top.proofs.premises.premises_are_exact.Goals as goal

pub returns-clause-programs : goal.returns-clause-programs
returns-clause-programs c = λ text core. (is-program, has-core text core)

pub returns-clause-settings : goal.returns-clause-settings
returns-clause-settings c = record {
  limits = λ text limits. (λ is. is, λ is. is);
  scenarios = λ core text scene. (λ is. is, λ is. is);
}

pub returns-clause-fits : goal.returns-clause-fits
returns-clause-fits c = λ passes texts a. fits passes a

pub returns-clause-audits : goal.returns-clause-audits
returns-clause-audits c = λ passes texts a placement. audits passes a placement
