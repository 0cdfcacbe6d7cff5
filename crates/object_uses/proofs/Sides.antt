-- A side that splits one off and takes it in again keeps its name, and answers for whom it answered.
use Rattle.std.proofs.Common.{◌≡◌, ℕ, ◌<◌, List, [], ◌∷◌, ◌++◌, refl, ap, sym, subst, ◌∙◌}
use Rattle.pass_names.specs.declared.PassId.{PassId}
use Rattle.pass_names.specs.Counts.{without_first}
use Rattle.pass_names.specs.Names.{AnswersFor, after_retire, after_split, child_of, next_name, occurrences, same}
use Rattle.pass_names.proofs.Names.{answers_split, same-refl}
use Rattle.object_uses.specs.Sides.{SideOf, KeepsSide}

one_gone : (x : List ℕ) → without_first (same x) (x ∷ []) ≡ []
one_gone x = rw (same-refl x) refl

split_again : (l m n : PassId) → l.split ≡ [] → m.split ≡ l.split ++ next_name l ∷ [] → n.name ≡ next_name l → n.split ≡ []
    → (after_retire m n).split ≡ []
split_again l m n alone splits name none =
    ap (λ ns. without_first (same n.name) ns ++ n.split) (splits ∙ ap (λ ns. ns ++ next_name l ∷ []) alone)
    ∙ (ap (λ x. without_first (same x) (next_name l ∷ []) ++ n.split) name
    ∙ (ap (λ ns. without_first (same (next_name l)) (next_name l ∷ []) ++ ns) none ∙ ap (λ ns. ns ++ []) (one_gone (next_name l))))

-- a side at its start, and a second one that was split off it, with what each has come to
module _ (a b c d e : SideOf) (splitter : b ≡ record a { name = after_split a.name }) (new : c ≡ record a { name = child_of a.name }) (first : d ≡ b)
    (second : KeepsSide c e) where
  pub retires_same : e ≡ record d { name = e.name }
  retires_same =
      let named : SideOf → SideOf = λ s. record s { name = e.name } in
      second.same ∙ (ap named new ∙ ap named (sym (first ∙ splitter)))

  name_of : e.name.name ≡ next_name a.name
  name_of = second.name ∙ ap (λ (s : SideOf). s.name.name) new

  pub retires_answers : AnswersFor d.name e.name
  retires_answers =
      subst (λ x. 0 < occurrences x d.name.split) (sym name_of)
      (answers_split a.name d.name (child_of a.name) (ap (λ (s : SideOf). s.name) (first ∙ splitter)) refl)

  pub retires_keeps : (f : SideOf) → f ≡ record d { name = after_retire d.name e.name } → KeepsSide a f
  retires_keeps f is = record {
    same = is ∙ (ap (λ (s : SideOf). record s { name = after_retire d.name e.name }) (first ∙ splitter)
        ∙ ap (λ n. record a { name = n }) (sym (ap (λ (s : SideOf). s.name) is)));
    name = ap (λ (s : SideOf). s.name.name) is ∙ ap (λ (s : SideOf). s.name.name) (first ∙ splitter);
    alone = λ h.
        ap (λ (s : SideOf). s.name.split) is
        ∙ split_again a.name d.name e.name h (ap (λ (s : SideOf). s.name.split) (first ∙ splitter)) name_of
        (second.alone (ap (λ (s : SideOf). s.name.split) new));
  }

-- so does one that is as it was
pub keeps_same : (c e : SideOf) → e ≡ c → KeepsSide c e
keeps_same c e is = record {
  same = is ∙ ap (λ n. record c { name = n }) (sym (ap (λ (s : SideOf). s.name) is));
  name = ap (λ (s : SideOf). s.name.name) is;
  alone = λ h. ap (λ (s : SideOf). s.name.split) is ∙ h;
}
