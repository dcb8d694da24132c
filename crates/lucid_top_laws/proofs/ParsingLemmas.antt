-- The tree of a text, computed from its tokens declaration by declaration.
use Rattle.std.proofs.Common.{◌≡◌, ◌∙◌, ℕ, zero, suc, true, List, [], ◌∷◌, Option, None, Some, ap, length, option_map, refl, subst}
use Rattle.std.proofs.lemmas.Bool.{and_from}
use Rattle.lucid_lex.specs.declared.token.Token.{Token}
use Rattle.lucid_parse.specs.Program.{HasLines, IsTreeOf, last_of, line_of}
use Rattle.lucid_parse_spec.specs.Law.{ReadAsSpelled}
use Rattle.lucid_parse_spec.specs.Lexemes.{lexemes_of}
use Rattle.lucid_parse_spec.specs.ReadDeclaration.{declaration}
use Rattle.lucid_parse_spec.specs.Spelling.{Text, all_written, declarations}
use Rattle.lucid_parse_tree.specs.declared.tree.Decl.{Decl}
use Rattle.lucid_parse_tree.specs.declared.tree.DeclKind.{DeclKind}

module _ (text : List ℕ) (tokens : List Token) where
  -- a declaration with the line of its first token, which is the first of these
  abbrev pub lined : Text → DeclKind → Decl
  lined ls x = record { kind = x; line = line_of text (last_of (length ls) tokens) }

  abbrev pub and_more : Text → Option (DeclKind × Text) → (Text → Option (List Decl)) → Option (List Decl)
  and_more ls None rest = None
  and_more ls (Some x) rest = option_map (λ ds. lined ls x.0 ∷ ds) (rest x.1)

  -- The declarations of the tokens, if they are fewer than this number.
  abbrev pub decls_of : ℕ → Text → Option (List Decl)
  decls_of zero ls = None
  decls_of (suc n) [] = Some []
  decls_of (suc n) (l ∷ ls) = and_more (l ∷ ls) (declaration (l ∷ ls)) (decls_of n)

  record AreRead (ls : Text) (ds : List Decl) : Type 0 where
    spelled : ls ≡ declarations ds []
    written : all_written ds ≡ true
    lines : HasLines text tokens ds []

  module _ (law : ReadAsSpelled) where
    one_more : (ls rest : Text) (x : DeclKind) (ds : List Decl) → declaration ls ≡ Some (x, rest) → AreRead rest ds → AreRead ls (lined ls x ∷ ds)
    one_more ls rest x ds is are =
        let first = law.sound ls x rest is in
        let whole : ls ≡ declarations (lined ls x ∷ ds) [] = first.0 ∙ ap (λ r. declarations (lined ls x ∷ []) r) are.spelled in
        record {
          spelled = whole;
          written = and_from _ _ first.1 are.written;
          lines = (ap (λ (k : Text). line_of text (last_of (length k) tokens)) whole, are.lines);
        }

    module _ (ls : Text) (rest : Text → Option (List Decl)) (reads : (back : Text) (ds : List Decl) → rest back ≡ Some ds → AreRead back ds) (ds : List Decl) where
      with_rest : (x : DeclKind) (back : Text) → declaration ls ≡ Some (x, back) → (o : Option (List Decl)) → rest back ≡ o →
          option_map (λ es. lined ls x ∷ es) o ≡ Some ds → AreRead ls ds
      with_rest x back first None there is = absurd (cc)
      with_rest x back first (Some es) there is =
          let same : lined ls x ∷ es ≡ ds = cc in
          subst (AreRead ls) same (one_more ls back x es first (reads back es there))

      with_first : (o : Option (DeclKind × Text)) → declaration ls ≡ o → and_more ls o rest ≡ Some ds → AreRead ls ds
      with_first None first is = absurd (cc)
      with_first (Some (x, back)) first is = with_rest x back first (rest back) refl is

    are_read : (n : ℕ) (ls : Text) (ds : List Decl) → decls_of n ls ≡ Some ds → AreRead ls ds
    are_read zero ls ds is = absurd (cc)
    are_read (suc n) [] ds is = let same : [] ≡ ds = cc in subst (AreRead []) same (record { spelled = refl; written = refl; lines = tt })
    are_read (suc n) (l ∷ ls) ds is = with_first (l ∷ ls) (decls_of n) (are_read n) ds (declaration (l ∷ ls)) refl is

    pub tree_by : (n : ℕ) (ds : List Decl) → decls_of n (lexemes_of text tokens) ≡ Some ds → IsTreeOf text tokens (record { decls = ds })
    tree_by n ds is = let are = are_read n (lexemes_of text tokens) ds is in record { written = are.written; spelled = are.spelled; lines = are.lines }
