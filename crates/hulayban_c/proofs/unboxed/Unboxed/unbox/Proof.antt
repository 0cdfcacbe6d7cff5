-- `unbox` calls `into_raw_with_allocator` on the box. With the memory that it hands out, the pair that it returns owns what a box owns, and so do the
-- two fields that are made of it.
use Rattle.std.proofs.Common.{◌≡◌, [], ◌∷◌, refl, sym, ap}
use mir.Syntax.{a_type, dcons, dnil}
use mir.MapTy.{inst_fn}
use mir.Val.{Val}
use base.Logic.{SProp, id⊢}
use base.Fml.{ftrue, flft}
use prog.Wp.{WpFn}
use contract.Monad.{fact}
use contract.Running.{tables}
use types.Kit.{Item, ‵, raw, ◌⊛◌, some, later, ◌$◌, ◌∵◌, !, qed, move, drop, use1, join, split, split3, pick, rewrite, fsplit, fjoin, suffices, await, done}
use types.Part.{whole, sub, agg}
use types.Run.{stop, fld, no_more, and_then, of_opd, returns, enter}
use types.ByLocal.{alloc_all, pass_all, free_all, look_at, get, get_in, sets, lands_as}
use denote.Exit.{no}
use denote.Param.{bounded}
use denote.RattleType.{RattleType, owns}
use denote.RawPtr.{Ptr, RawPtr}
use denote.Signature.{types_at, plain}
use denote.Steps.{heard, nothing, only}
use denote.Struct.Tuple.{Tuple}
use denote.Triple.Call.{calls_at}
use denote.Triple.Clauses.{Lasts, lasts}
use denote.Triple.Spec.{triple_of}
use denote.Triple.Table.{framed}
use denote.Triple.Walked.{says, Stays, stay_dropped, walk_of, ends_at}
use Rattle.core.proofs.alloc.Calls.{token, Goes-blank}
use Rattle.std.proofs.raw_atomic.Walks.{proved_at}
use Rattle.std_alloc.specs.Box.Ownership.{box_owns}
use Rattle.std_alloc.proofs.BoxSteps.Form.{Bx, D, R, P, B, word, box_typed}
use Rattle.std_alloc.specs.contracts.boxed.Box.into_raw_with_allocator as callee
use Rattle.std_alloc.proofs.boxed.Box.into_raw_with_allocator.Met.{met}
use Rattle.hulayban_c.proofs.Words.{at_words, runs_at}
use Rattle.hulayban_c.specs.contracts.unboxed.Unboxed as unboxed
use Rattle.hulayban_c.specs.contracts.unboxed.Unboxed.unbox.{ended, clauses}
use Rattle.hulayban_c.specs.contracts.unboxed.Unboxed.unbox.Key.{name as #self}
use Rattle.hulayban_c.proofs.unboxed.Unboxed.unbox.Statement.{statement}
use Rattle.hulayban_c.proofs.unboxed.Unboxed.unbox.Code as code

pub unbox_spec : {M : Type 1} → statement M
unbox_spec 𝓤 𝓛 𝓜 𝓡 wired X Z LX LZ g d dd dx allocator heap_goes value_goes =
    let H = 𝓛.H in let 𝓣 = tables 𝓤 H 𝓜 𝓡 𝓡.env in
    let E : Bx = record { row = X; laws = LX; al = record { row = Z; laws = LZ; g = g; d = d; drops = dd } } in
    let To : RattleType = unboxed.the_row (R E) (P E) g in let Pair : RattleType = Tuple (RawPtr ∷ P E ∷ []) in
    let at_types = bounded (a_type ∷ a_type ∷ []) (X, (Z, tt)) (dcons d (dcons dd (dcons dx dnil))) in let fn = inst_fn at_types code.function in
    let En = ended X Z g d dd dx in let c = clauses X Z g d dd dx 𝓛 𝓜.mem 𝓡.returns in
    let hs : Stays En.signature.params En.kept = (stay_dropped (plain (λ _. B E)) no, tt) in
    let Apart = triple_of 𝓛 (callee.signature X Z g d dd dx) (callee.spec X Z g d dd dx 𝓛 𝓜.mem 𝓡.returns) in let Left = callee.ended X Z g d dd dx in
    let goes = met 𝓤 𝓛 𝓜 𝓡 (code.calls-std_alloc::boxed::Box::into_raw_with_allocator 𝓡.env wired) X Z LX LZ g d dd dx allocator heap_goes value_goes in
    proved_at 𝓛 En hs c 𝓜 𝓡 (Goes-blank 𝓛 2 (plain (λ _. B E)) no (λ κs x f. tt), tt) (#self at_types) fn (code.unfolded 𝓤 H 𝓜 𝓡 wired (X, (Z, tt)) d dd dx) (λ z are.
    let κs = z.0.0 in let qs = z.0.1 in let box : D E = z.0.3.0 in let Post : Val → SProp 𝓤 = (walk_of 𝓛 En hs c).post z in
    let alive : Item 𝓤 = ‵ (flft κs.0 qs.0) ⊛ ‵ (flft κs.1.0 qs.1.0) ⊛ ‵ ftrue in
    qed 𝓛 ((alive ⊛ ‵ (owns (types_at En.signature.params κs) z.0.3 z.0.4)) ∷ raw ((c κs z.0.3).requires z.1) ∷ []) ∵ split ! $ move ! (1 ∷ []) $ fsplit ! $
    at_words E ! box z.0.4.0 (λ b o h is fits. let w : Val = word E h b o in let typed = box_typed E h b o fits in
    -- what the callee asks is what this function was given, at one machine value
    let y : Apart.Ghost = ((κs, qs, tt, (box, tt), (w ∷ [], tt)), tt) in
    fjoin ! $ move ! (1 ∷ 0 ∷ []) $ join ! $ join ! $ use1 𝓛 (raw (Apart.pre y)) (id⊢ 𝓤 _) $
    suffices ! _ (runs_at 𝓤 (λ us. WpFn 𝓤 H 𝓣.C 𝓣.Λ fn us Post) w z.0.4.0 is) $
    enter ! 𝓣.C 𝓣.Λ fn (w ∷ []) Post $ alloc_all ! (λ l. pass_all ! refl (typed, tt) $ sets ! (of_opd ! (get ! refl)) refl typed $
    calls_at ! (framed 𝓤 H 𝓜 𝓣) Apart goes y (and_then ! (get ! refl) (no_more !)) (λ pair.
    use1 𝓛 (later (some (λ (r : Ptr × Z.Denot). (alive ⊛ ‵ (Pair.own_val r (pair ∷ []))) ⊛ some (λ (ws : Lasts Left κs y.0.3). ‵ (lasts Left κs y.0.3 ws) ⊛ (raw (fact 𝓤 (r.1 ≡ box.alloc)) ⊛ ‵ (box_owns (token E.al box.alloc) (R E) r.0 box.value)))))) (id⊢ 𝓤 _) $
    await ! tt $ pick ! (λ r. split ! $ move ! (1 ∷ []) $ pick ! (λ _. split3 ! $ drop ! $ heard ! (r.1 ≡ box.alloc) (λ same.
    -- [the memory; the tokens and the pair]
    rewrite ! 0 (λ (s : Z.Denot). ‵ (box_owns (token E.al s) (R E) r.0 box.value)) (sym same) refl $ move ! (1 ∷ []) $ split ! $ move ! (1 ∷ 2 ∷ []) $ fjoin ! $
    let again : D E = record { ptr = r.0; alloc = r.1; value = box.value } in let made : To.Denot = record { at = r.0; heap = r.1; value = box.value } in
    use1 𝓛 (‵ ((B E).own_val again (pair ∷ []))) (id⊢ 𝓤 _) $
    at_words E ! again (pair ∷ []) (λ b' o' h' is' fits'. let w' : Val = word E h' b' o' in let typed' = box_typed E h' b' o' fits' in
    lands_as ! (ap only is') refl typed' $
    sets ! (of_opd ! (get_in ! (fld ! refl (stop !)) (sub ! 0 refl (whole !)))) refl (tt, tt) $
    sets ! (of_opd ! (get_in ! (fld ! refl (stop !)) (sub ! 1 refl (whole !)))) refl fits' $ sets ! (of_opd ! (get ! refl)) refl fits' $
    sets ! (agg ! (and_then ! (get ! refl) (and_then ! (get ! refl) (no_more !)))) refl typed' $ returns ! (look_at ! 0 refl) $ free_all ! refl $
    use1 𝓛 (‵ (To.own_val made (w' ∷ []))) (id⊢ 𝓤 _) $
    suffices ! _ (ends_at 𝓛 En hs c z w' made ((tt, (tt, tt)), tt) (tt, tt)) $ says ! refl $
    nothing ! $ nothing ! $ fjoin ! $ join ! $ move ! (1 ∷ 0 ∷ []) $ join ! $ done !))))))))
