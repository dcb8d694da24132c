-- The scheme of every function and handler is principal.
use Rattle.std.proofs.Common.{◌≡◌, List, [], ◌∷◌, ◌++◌, fold, refl, sym, ap, subst, ◌∙◌, append-nil, append_assoc}
use Rattle.lucid_core.specs.declared.defs.FunDef.{FunDef}
use Rattle.lucid_core.specs.declared.defs.HandlerDef.{HandlerDef}
use Rattle.lucid_core.specs.Parts.{CoreParts}
use Rattle.lucid_effects_spec.specs.Order.{Body, bodies, fun_bodies, handler_bodies}
use Rattle.lucid_effects_spec.specs.declared.scheme.Scheme.{Scheme}
use Rattle.lucid_effects_spec.specs.Principal.{ArePrincipal}
use Rattle.lucid_effects_spec.specs.Schemes.{all_schemes, handler_schemes, scheme_of, schemes_of}
use Rattle.lucid_effects_spec.proofs.Principal.{principal}

abbrev grow : List Scheme → List FunDef → List Scheme
grow done funs = fold (λ before f. before ++ scheme_of before f.body ∷ []) done funs

-- Of functions behind others.
abbrev behind : List FunDef → List FunDef → List Scheme
behind before [] = []
behind before (f ∷ fs) = scheme_of (schemes_of before) f.body ∷ behind (before ++ f ∷ []) fs

one_more : (done : List Scheme) (funs : List FunDef) (f : FunDef) → grow done (funs ++ f ∷ []) ≡ grow done funs ++ scheme_of (grow done funs) f.body ∷ []
one_more done [] f = refl
one_more done (g ∷ funs) f = one_more (done ++ scheme_of done g.body ∷ []) funs f

split : (before fs : List FunDef) → grow (schemes_of before) fs ≡ schemes_of before ++ behind before fs
split before [] = sym (append-nil (schemes_of before))
split before (f ∷ fs) =
    let s = scheme_of (schemes_of before) f.body in
    ap (λ (done : List Scheme). grow done fs) (sym (one_more [] before f)) ∙ split (before ++ f ∷ []) fs ∙ ap (λ (done : List Scheme). done ++ behind (before ++ f ∷ []) fs) (one_more [] before f)
    ∙ append_assoc (schemes_of before) (s ∷ []) (behind (before ++ f ∷ []) fs)

of_funs : (before fs : List FunDef) → ArePrincipal (fun_bodies before fs) (behind before fs)
of_funs before [] = tt
of_funs before (f ∷ fs) = (principal before f.body, of_funs (before ++ f ∷ []) fs)

of_handlers : (funs : List FunDef) (handlers : List HandlerDef) → ArePrincipal (handler_bodies funs handlers) (handler_schemes (schemes_of funs) handlers)
of_handlers funs [] = tt
of_handlers funs (h ∷ handlers) = (principal funs h.body, of_handlers funs handlers)

both : (bs cs : List Body) (ss ts : List Scheme) → ArePrincipal bs ss → ArePrincipal cs ts → ArePrincipal (bs ++ cs) (ss ++ ts)
both [] cs [] ts h k = k
both [] cs (s ∷ ss) ts h k = absurd h
both (b ∷ bs) cs [] ts h k = absurd h
both (b ∷ bs) cs (s ∷ ss) ts h k = (h.0, both bs cs ss ts h.1 k)

pub all_principal : (parts : CoreParts) → ArePrincipal (bodies parts) (all_schemes parts)
all_principal parts =
    let funs = parts.funs in
    both (fun_bodies [] funs) (handler_bodies funs parts.handlers) (schemes_of funs) (handler_schemes (schemes_of funs) parts.handlers)
    (subst (λ (ss : List Scheme). ArePrincipal (fun_bodies [] funs) ss) (sym (split [] funs)) (of_funs [] funs)) (of_handlers funs parts.handlers)
