-- How a handle is made and taken apart, by hand, for every type of handles.
use Rattle.std.proofs.Common.{◌≡◌, ℕ, List, [], ◌∷◌, map, refl, subst, lit<}
use seplogic.Ra.Ura.{Ura}
use mir.Syntax.{Ty, ty_ptr, ty_bool, Fn, Callee, local, value_local, Opd, int, w8, w64, copy, place, field}
use mir.Syntax.{Rv, rv_opd, op2, ptr_eq, aggregate, Body, assign, seq, cond, return}
use mir.Raw.{raw as bare}
use mir.Val.{Val, vptr, vcons, vnil, vnull, has_ty}
use base.Logic.{SProp, emp, never, fst∗, id⊢}
use base.Fml.{Fml, ftrue, fsep}
use prog.Model.{Model}
use prog.Wp.{WpFn, Closed}
use types.Logic.{Logic, sem}
use types.Kit.{‵, raw, at_ret, ◌⊛◌, ◌$◌, ◌∵◌, !, qed, move, drop, split, join, fsplit, fjoin, suffices, use0, use1, rewrite, done}
use types.Run.{stop, fld, lit, of_opd, bin, no_more, and_then, first, branches, exec, returns, enter}
use types.ByLocal.{alloc_all, pass_all, free_all, look_at, get, get_in, sets, sets_last, env}
use types.Part.{agg, sub, whole}
use types.Match.{live}
use contract.Monad.{fact}
use contract.Running.{Running, tables}
use denote.Exit.{yes}
use denote.RattleType.{RattleType}
use denote.RawPtr.{Ptr, block_ptr, null_ptr, ptr_val, in_a_block, tests_null}
use denote.Signature.{plain}
use denote.Steps.{nothing}
use denote.Param.{layout}
use denote.Triple.Clauses.{Ended, Clauses, closing}
use denote.Triple.Spec.{Meets}
use denote.Triple.Walked.{says, Stays, stay_dropped, walk_of, ends_at, Goes-dropped}
use Rattle.core.proofs.cell.Inside.{Good, one}
use Rattle.core.proofs.alloc.Shapes.{after}
use Rattle.core.proofs.option.Made.{Some-of, none_of}
use Rattle.core.specs.contracts.option.Option as Option
use Rattle.core.specs.declared.option.Option.TheVariants.{None, Some}
use Rattle.std.specs.Prelude.{MatchOption}
use Rattle.std.proofs.raw_atomic.Walks.{proved_at}
use Rattle.std_alloc.proofs.ResultValues.{and_tt}
use Rattle.std.specs.Box.Ownership.{box_owns}
use Rattle.std_heap.specs.contracts.GlobalAllocator.TheImpl.{ghosts}
use Rattle.std_heap.proofs.Global.TheLaws as heap
use Rattle.hulayban_c.proofs.Handles.{Kind, Z, Unboxed, Handle, at, alloc, kept, owned, both, two_in, two_out, handle_in, box_or_null}
use Rattle.hulayban_c.proofs.Words.{runs_at}

-- a function of one parameter, by the types of its locals
abbrev of_one : List Ty → Body → Fn
of_one τs body = record { lifetimes = 0; outlives = []; ty_params = []; givens = 0; params = 1; locals = map (λ τ. local τ value_local) τs; body = body }

abbrev of_local : ℕ → Opd
of_local n = copy (place n [])

abbrev field_of_first : ℕ → Opd
field_of_first n = copy (place 1 (field n ∷ []))

abbrev set : ℕ → Rv → Body
set n v = assign (place n []) v

module _ (P R : RattleType) where
  abbrev ended : Ended
  ended = record { signature = record { lifetimes = 0; outlives = []; params = plain (λ κs. P) ∷ []; result = plain (λ κs. R) }; kept = (yes, tt) }

  module _ (Says : P.Denot → R.Denot → Type 0) where
    abbrev clauses : {M : Type 1} (𝓤 : Ura M) → Clauses 𝓤 ended
    clauses 𝓤 = λ κs args. record { ghost = Unit {0}; requires = λ g. emp 𝓤; ensures = λ g r e. fact 𝓤 (Says args.0 r) }

    -- whatever runs this code meets the clause
    abbrev Meets_by : Fn → Type 1 → Type 2
    Meets_by fn M = (𝓤 : Ura M) (𝓛 : Logic 𝓤) (𝓜 : Model 𝓤 𝓛.H) (𝓡 : Running 𝓤 𝓛.H 𝓜) (k : Callee)
        → Closed 𝓤 𝓛.H (tables 𝓤 𝓛.H 𝓜 𝓡 𝓡.env).C (tables 𝓤 𝓛.H 𝓜 𝓡 𝓡.env).Λ k fn
        → Meets 𝓛 ended.signature ((tables 𝓤 𝓛.H 𝓜 𝓡 𝓡.env).C k) (closing 𝓛 ended (clauses 𝓤))

module _ (C : Kind) where
  abbrev none_fn : Fn
  none_fn = of_one (layout (Handle C) ∷ layout Z ∷ []) (seq (set 0 (aggregate (int w64 0 ∷ of_local 1 ∷ []))) return)

  -- `none` makes a handle at null, which owns nothing
  pub none_met : {M : Type 1} → Meets_by Z (Handle C) (λ a r. kept C r ≡ None) none_fn M
  none_met 𝓤 𝓛 𝓜 𝓡 key closed =
      let H = 𝓛.H in let 𝓣 = tables 𝓤 H 𝓜 𝓡 𝓡.env in let En = ended Z (Handle C) in let c = clauses Z (Handle C) (λ a r. kept C r ≡ None) 𝓤 in
      let fn = none_fn in
      let hs : Stays En.signature.params En.kept = (stay_dropped (plain (λ _. Z)) yes, tt) in
      proved_at 𝓛 En hs c 𝓜 𝓡 (Goes-dropped 𝓛 0 (plain (λ _. Z)) yes (λ κs x f. refl), tt) key fn closed (λ z are.
      let a = z.0.3.0 in let Post : Val → SProp 𝓤 = (walk_of 𝓛 En hs c).post z in let Run : List Val → SProp 𝓤 = λ ws. WpFn 𝓤 H 𝓣.C 𝓣.Λ fn ws Post in
      let made = C.made (null_ptr, (a, None)) in
      let h = one (layout Z) z.0.4.0 ((heap.the_row_laws.lawful 𝓛).typed a z.0.4.0 are.0) in let w : Val = both vnull h.0 in
      let good : Good (layout (Handle C)) w = (and_tt (has_ty (layout Z) h.0) h.2.0, (record { fits = lit< tt }, (h.2.1, tt))) in
      qed 𝓛 ((‵ ftrue ⊛ ‵ (fsep (Z.own_val a z.0.4.0) ftrue)) ∷ raw (emp 𝓤) ∷ []) ∵ split ! $ drop ! $ fsplit ! $
      rewrite ! 0 (λ (us : List Val). ‵ (Z.own_val a us)) h.1 refl $
      move ! (1 ∷ 2 ∷ []) $ drop ! $ drop ! $ nothing ! $ handle_in C ! (null_ptr, (a, None)) h.0 $
      suffices ! _ (runs_at 𝓤 Run h.0 z.0.4.0 h.1) $
      enter ! 𝓣.C 𝓣.Λ fn (h.0 ∷ []) Post $ alloc_all ! (λ l. pass_all ! refl (h.2, tt) $
      sets ! (agg ! (and_then ! (lit ! tt) (and_then ! (get ! refl) (no_more !)))) refl good $ returns ! (look_at ! 0 refl) $ free_all ! refl $
      suffices ! _ (ends_at 𝓛 En hs c z w made (tt, tt) (tt, tt)) $ says ! (λ i. (C.same (null_ptr, (a, None)) i).1.1) $
      nothing ! $ nothing ! $ fjoin ! $ join ! $ nothing ! $ join ! $ done !))

  abbrev of_fn : Fn
  of_fn = of_one (layout (Handle C) ∷ layout (Unboxed C) ∷ ty_ptr ∷ layout Z ∷ ty_ptr ∷ [])
      (seq (set 2 (rv_opd (field_of_first 0))) (seq (set 3 (rv_opd (field_of_first 1)))
      (seq (set 4 (rv_opd (of_local 2))) (seq (set 0 (aggregate (of_local 4 ∷ of_local 3 ∷ []))) return))))

  -- `of_unboxed` moves two fields: the pointer isn't null, so a handle owns what they own
  pub of_unboxed_met : {M : Type 1} → Meets_by (Unboxed C) (Handle C) (λ u r. kept C r ≡ Some u.value) of_fn M
  of_unboxed_met 𝓤 𝓛 𝓜 𝓡 key closed =
      let H = 𝓛.H in let 𝓣 = tables 𝓤 H 𝓜 𝓡 𝓡.env in let En = ended (Unboxed C) (Handle C) in
      let c = clauses (Unboxed C) (Handle C) (λ u r. kept C r ≡ Some u.value) 𝓤 in let fn = of_fn in
      let hs : Stays En.signature.params En.kept = (stay_dropped (plain (λ _. Unboxed C)) yes, tt) in
      proved_at 𝓛 En hs c 𝓜 𝓡 (Goes-dropped 𝓛 0 (plain (λ _. Unboxed C)) yes (λ κs x f. refl), tt) key fn closed (λ z are.
      let u = z.0.3.0 in let Post : Val → SProp 𝓤 = (walk_of 𝓛 En hs c).post z in
      let Boxed : Ptr → Fml = λ p. box_owns (ghosts.dealloc_token u.heap) C.inner p u.value in
      qed 𝓛 ((‵ ftrue ⊛ ‵ (fsep ((Unboxed C).own_val u z.0.4.0) ftrue)) ∷ raw (emp 𝓤) ∷ []) ∵ split ! $ drop ! $ fsplit ! $
      two_out ! u.at u.heap (Boxed u.at) z.0.4.0 (λ h ws fits.
      in_a_block ! u.at Boxed (fst∗ 𝓤 (never 𝓤) (sem 𝓛 (ghosts.dealloc_token u.heap (bare (layout C.inner)) null_ptr))) (λ b o here.
      let w : Val = both (vptr b o) h in let typed : Good (layout (Handle C)) w = (and_tt (has_ty (layout Z) h) fits.0, (tt, (fits.1, tt))) in
      let made = C.made (block_ptr b o, (u.heap, Some u.value)) in
      handle_in C ! (block_ptr b o, (u.heap, Some u.value)) h $ move ! (1 ∷ 2 ∷ []) $ drop ! $ drop ! $
      suffices ! _ (runs_at 𝓤 (λ us. WpFn 𝓤 H 𝓣.C 𝓣.Λ fn us Post) w z.0.4.0 (subst (λ (p : Ptr). z.0.4.0 ≡ both (ptr_val p) h ∷ []) here ws)) $
      enter ! 𝓣.C 𝓣.Λ fn (w ∷ []) Post $ alloc_all ! (λ l. pass_all ! refl (typed, tt) $
      sets ! (of_opd ! (get_in ! (fld ! refl (stop !)) (sub ! 0 refl (whole !)))) refl (tt, tt) $
      sets ! (of_opd ! (get_in ! (fld ! refl (stop !)) (sub ! 1 refl (whole !)))) refl fits $ sets ! (of_opd ! (get ! refl)) refl (tt, tt) $
      sets ! (agg ! (and_then ! (get ! refl) (and_then ! (get ! refl) (no_more !)))) refl typed $ returns ! (look_at ! 0 refl) $ free_all ! refl $
      suffices ! _ (ends_at 𝓛 En hs c z w made (tt, tt) (tt, tt)) $ says ! (λ i. (C.same (block_ptr b o, (u.heap, Some u.value)) i).1.1) $
      nothing ! $ nothing ! $ fjoin ! $ join ! $ nothing ! $ join ! $ done !))))

  abbrev Out : RattleType
  Out = Option.the_row (Unboxed C)

  abbrev into_fn : Fn
  into_fn = of_one (layout Out ∷ layout (Handle C) ∷ ty_ptr ∷ layout Z ∷ ty_bool ∷ layout Out ∷ ty_ptr ∷ layout (Unboxed C) ∷ [])
      (seq (set 2 (rv_opd (field_of_first 0))) (seq (set 3 (rv_opd (field_of_first 1))) (seq (set 4 (op2 ptr_eq (of_local 2) (int w64 0)))
      (seq (cond (of_local 4) (set 5 (aggregate (int w8 0 ∷ [])))
      (seq (set 6 (rv_opd (of_local 2))) (seq (set 7 (aggregate (of_local 6 ∷ of_local 3 ∷ []))) (set 5 (aggregate (int w8 1 ∷ of_local 7 ∷ []))))))
      (seq (set 0 (rv_opd (of_local 5))) return)))))

  abbrev Told : C.D → Out.Denot → Type 0
  Told d r = MatchOption r (kept C d ≡ None) (λ u. kept C d ≡ Some u.value)

  -- `into_unboxed` tests the pointer: at null the handle owns nothing, else what a box owns goes with the two fields
  pub into_unboxed_met : {M : Type 1} → Meets_by (Handle C) Out Told into_fn M
  into_unboxed_met 𝓤 𝓛 𝓜 𝓡 key closed =
      let H = 𝓛.H in let 𝓣 = tables 𝓤 H 𝓜 𝓡 𝓡.env in let En = ended (Handle C) Out in let c = clauses (Handle C) Out Told 𝓤 in let fn = into_fn in
      let hs : Stays En.signature.params En.kept = (stay_dropped (plain (λ _. Handle C)) yes, tt) in
      proved_at 𝓛 En hs c 𝓜 𝓡 (Goes-dropped 𝓛 0 (plain (λ _. Handle C)) yes (λ κs x f. refl), tt) key fn closed (λ z are.
      let d = z.0.3.0 in let a = alloc C d in let Post : Val → SProp 𝓤 = (walk_of 𝓛 En hs c).post z in
      let Run : List Val → SProp 𝓤 = λ ws. WpFn 𝓤 H 𝓣.C 𝓣.Λ fn ws Post in
      qed 𝓛 ((‵ ftrue ⊛ ‵ (fsep ((Handle C).own_val d z.0.4.0) ftrue)) ∷ raw (emp 𝓤) ∷ []) ∵ split ! $ drop ! $ fsplit ! $
      two_out ! (at C d) a (owned C (C.parts d)) z.0.4.0 (λ h ws fits. move ! (2 ∷ 3 ∷ []) $ drop ! $ drop ! $
      -- [what the pointer owns; the allocator]
      box_or_null C ! tt a (at C d) (kept C d)
      (λ null none. drop ! $ drop ! $ let w : Val = both vnull h in
      let typed : Good (layout (Handle C)) w = (and_tt (has_ty (layout Z) h) fits.0, (record { fits = lit< tt }, (fits.1, tt))) in
      suffices ! _ (runs_at 𝓤 Run w z.0.4.0 (subst (λ (p : Ptr). z.0.4.0 ≡ both (ptr_val p) h ∷ []) null ws)) $
      enter ! 𝓣.C 𝓣.Λ fn (w ∷ []) Post $ alloc_all ! (λ l. pass_all ! refl (typed, tt) $ let Ev = env fn.locals l in
      sets ! (of_opd ! (get_in ! (fld ! refl (stop !)) (sub ! 0 refl (whole !)))) refl (tt, record { fits = lit< tt }) $
      sets ! (of_opd ! (get_in ! (fld ! refl (stop !)) (sub ! 1 refl (whole !)))) refl fits $
      sets ! (bin ! (get ! refl) (lit ! tt) tt) refl (tt, tt) $ first ! $ branches ! (get ! refl)
      (λ _. sets_last ! (agg ! (and_then ! (lit ! tt) (no_more !))) refl (tt, (record { fits = lit< tt }, tt)) $
      exec ! 𝓣.C 𝓣.Λ Ev (after 4 fn.body) (at_ret Ev Post) $ sets ! (of_opd ! (get ! refl)) refl (tt, (record { fits = lit< tt }, tt)) $
      use0 𝓛 (‵ (Out.own_val None (live 0 vnil ∷ []))) (none_of 𝓛 (Unboxed C)) $ returns ! (look_at ! 0 refl) $ free_all ! refl $
      suffices ! _ (ends_at 𝓛 En hs c z (live 0 vnil) None (tt, tt) (tt, tt)) $ says ! none $ nothing ! $ nothing ! $ fjoin ! $ join ! $ nothing ! $ join ! $
      done !)
      (λ wrong. absurd wrong)))
      (λ b o x here some t. let w : Val = both (vptr b o) h in
      let typed : Good (layout (Handle C)) w = (and_tt (has_ty (layout Z) h) fits.0, (tt, (fits.1, tt))) in
      let v₁ : Val = live 1 (vcons w vnil) in let p : (Unboxed C).Denot = record { at = block_ptr b o; heap = a; value = x } in
      let good : Good (layout Out) v₁ = (and_tt _ typed.0, (record { fits = lit< tt }, (typed.1, tt))) in
      suffices ! _ (runs_at 𝓤 Run w z.0.4.0 (subst (λ (p : Ptr). z.0.4.0 ≡ both (ptr_val p) h ∷ []) here ws)) $
      two_in ! (block_ptr b o) a (owned C (block_ptr b o, (a, Some x))) h $ use1 𝓛 (‵ ((Unboxed C).own_val p (w ∷ []))) (id⊢ 𝓤 _) $
      enter ! 𝓣.C 𝓣.Λ fn (w ∷ []) Post $ alloc_all ! (λ l. pass_all ! refl (typed, tt) $ let Ev = env fn.locals l in
      sets ! (of_opd ! (get_in ! (fld ! refl (stop !)) (sub ! 0 refl (whole !)))) refl (tt, tt) $
      sets ! (of_opd ! (get_in ! (fld ! refl (stop !)) (sub ! 1 refl (whole !)))) refl fits $
      sets ! (bin ! (get ! refl) (lit ! tt) (tests_null (block_ptr b o) t)) refl (tt, tt) $ first ! $ branches ! (get ! refl) (λ wrong. absurd wrong) (λ _.
      sets ! (of_opd ! (get ! refl)) refl (tt, tt) $ sets ! (agg ! (and_then ! (get ! refl) (and_then ! (get ! refl) (no_more !)))) refl typed $
      sets_last ! (agg ! (and_then ! (lit ! tt) (and_then ! (get ! refl) (no_more !)))) refl good $
      exec ! 𝓣.C 𝓣.Λ Ev (after 4 fn.body) (at_ret Ev Post) $ sets ! (of_opd ! (get ! refl)) refl good $
      use1 𝓛 (‵ (Out.own_val (Some p) (v₁ ∷ []))) (Some-of 𝓛 (Unboxed C) p w) $ returns ! (look_at ! 0 refl) $ free_all ! refl $
      suffices ! _ (ends_at 𝓛 En hs c z v₁ (Some p) (tt, tt) (tt, tt)) $ says ! some $ nothing ! $ nothing ! $ fjoin ! $ join ! $ nothing ! $ join ! $
      done !)))))
