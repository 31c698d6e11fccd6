-- Lines that declare keep what holds.
use Prim.Native.Nat.{ℕ, ◌+◌, ◌<◌}
use Rattle.std.proofs.Common.{arith}
use Rattle.std.specs.Prelude.{◌≡◌, ◌&&◌, ltb}
use mathlib.Core.List.{List, [], ◌∷◌, ◌++◌}
use Rattle.std.proofs.Math.Dec.{leb}
use Rattle.std.proofs.Math.ListN.{length, get_or, length-append}
use borrow.Author.Tests.{ltb-true, leb-true}
use Rattle.definition.specs.Sizes.{max_sorts}
use Rattle.definition.proofs.Laws.Lists.{and_true}
use Rattle.rule_lent.specs.Fit.{max_signatures, max_signature_sorts, max_globals, contexts}
use Rattle.text_words.specs.Parts.{find}
use Rattle.text_grammar.specs.Bytes.{Word}
use Rattle.text_definition.specs.Decls.{Decls}
use Rattle.text_definition.specs.Declare.{Says, add_sort, add_global, add_signature, set_context}
use Rattle.text_definition.specs.Say.{numbers}
use Rattle.text_safety.proofs.Laws.Words.{Of, word_at, Known, numbers_at, numbers_length}
use Rattle.text_safety.proofs.Laws.Tables.{more_globals_lem, more_heads, more_terms, add_global_lem, SaysFits, add_head}
use Rattle.text_safety.proofs.Laws.Good.{Good, After, unless_full_lem}

module _ (d : Decls) (o : Good d) where
  pub sort_added : (name : Word) → After (add_sort d name)
  unfolding add_sort
  sort_added name = unless_full_lem (ltb (length d.sort_names) max_sorts) _ (λ h.
      let l : length d.sort_names < max_sorts = ltb-true (length d.sort_names) max_sorts h in
      let e : length (d.sort_names ++ name ∷ []) ≡ length d.sort_names + 1 = length-append d.sort_names (name ∷ []) in
      let n : ℕ = length d.sort_names in
      let m : ℕ = length (d.sort_names ++ name ∷ []) in
      record {
        sorts = omega arith;
        globals = more_globals_lem n m d.global_names d.globals (omega arith) o.globals;
        heads = more_heads n m d.head_names d.signatures d.used d.signature_sorts (omega arith) o.heads;
        terms = more_terms n m (length d.global_names) (length d.global_names) d.term_names d.terms (omega arith) (omega arith) o.terms;
        context = o.context;
        problem = record { taken = o.problem.taken; few_terms = o.problem.few_terms; few_sorts = omega (arith, o.problem.few_sorts) };
      })

  pub global_added : (name sort : Word) → Known sort d.sort_names → After (add_global d name sort)
  unfolding add_global
  global_added name sort k = unless_full_lem (ltb (length d.global_names) max_globals) _ (λ h.
      let l : length d.global_names < max_globals = ltb-true (length d.global_names) max_globals h in
      let e : length (d.global_names ++ name ∷ []) ≡ length d.global_names + 1 = length-append d.global_names (name ∷ []) in
      let n : ℕ = length d.sort_names in
      record {
        sorts = o.sorts;
        globals = add_global_lem n (find sort d.sort_names) name d.global_names d.globals l k o.globals;
        heads = o.heads;
        terms = more_terms n n (length d.global_names) (length (d.global_names ++ name ∷ [])) d.term_names d.terms (omega arith) (omega arith) o.terms;
        context = o.context;
        problem = o.problem;
      })

  pub head_added : (name : Word) (s : Says) → ((w : Word) → Of w s.sorts → Known w d.sort_names) →
      SaysFits (length d.sort_names) s.kind s.common s.exact s.output → After (add_signature d name s)
  unfolding add_signature
  head_added name s k f = unless_full_lem (ltb (length d.head_names) max_signatures && leb (d.used + length s.sorts) max_signature_sorts) _ (λ h.
      let (a, b) = and_true (ltb (length d.head_names) max_signatures) (leb (d.used + length s.sorts) max_signature_sorts) h in
      let ss : List ℕ = numbers d.sort_names s.sorts in
      let e : length ss ≡ length s.sorts = numbers_length d.sort_names s.sorts in
      let low : (j : ℕ) → j < length ss → get_or ss j 0 < length d.sort_names =
      λ j l. rw (numbers_at d.sort_names s.sorts j (omega arith)) (k (get_or s.sorts j []) (word_at s.sorts j (omega arith))) in
      record {
        sorts = o.sorts;
        globals = o.globals;
        heads = rw e at (add_head (length d.sort_names) s.kind (find name (d.head_names ++ name ∷ [])) s.mask s.common s.exact s.output d.used ss name d.head_names d.signatures d.signature_sorts
            (ltb-true (length d.head_names) max_signatures a) (omega (arith, leb-true (d.used + length s.sorts) max_signature_sorts b)) f low o.heads);
        terms = o.terms;
        context = o.context;
        problem = o.problem;
      })

  pub context_set : (n : ℕ) → n < contexts → After (set_context d n)
  unfolding set_context
  context_set n h = record {
    sorts = o.sorts;
    globals = o.globals;
    heads = o.heads;
    terms = o.terms;
    context = h;
    problem = o.problem;
  }
