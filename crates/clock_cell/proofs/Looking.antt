-- A load and an exchange keep the rule.
use Rattle.std.proofs.Common.{◌≡◌, ℕ, zero, suc, ◌+◌, Bool, true, false, if◌then◌else◌, nat_eq, eqb, ne_eqb, ◌&&◌, List, [], ◌∷◌, ◌++◌, length, refl, ap, sym, ◌∙◌, subst, length-append, arith}
use Rattle.std.specs.Prelude.{slice_index, slice_set}
use Rattle.std.proofs.lemmas.Bool.{true≢false}
use Rattle.std.proofs.lemmas.List.Elements.{All-nil, All-weaker}
use mathlib.Core.Option.{some}
use lib.ListN.{get_elem?}
use lib.Pointwise.{pointwise, bytes_decides}
use Rattle.crossbeam_utils.specs.Register.{Turns}
use Rattle.ktime.specs.Clocks.{at_stamp, after_write, IsAccepted, AreAccepted}
use Rattle.ktime.specs.declared.write.Write.{Write}
use Rattle.ktime.specs.Readings.{ClockReading}
use Rattle.pass_names.specs.Counts.{one_if, count}
use Rattle.pass_names.specs.Names.{IsLast}
use Rattle.pass_names.specs.Passes.{Begins, entries, HasEach, within, is_place}
use Rattle.pass_names.proofs.Counts.{set_there}
use Rattle.pass_names.proofs.Last.{total_last}
use Rattle.pass_names.proofs.Passes.{within_more, count_place, begins_refl, begins_trans, begins_more, goes_refl, goes_trans}
use Rattle.clock_cell.specs.declared.view.ClockView.{ClockView}
use Rattle.clock_cell.specs.Views.{reading_after, KnowsClock, having_read}
use Rattle.clock_cell.specs.Words.{cell_words, reading_in}
use Rattle.clock_cell.specs.Rules.{clock_pass_id, clock_places, ClockInvariant}
use Rattle.clock_cell.specs.Plays.{IsRestingView, Loaded, Exchanged}
use Rattle.ktime.proofs.Writes.{after_write_counts, clock_after-append, accepted_push}
use Rattle.clock_cell.proofs.Frames.{goes_one, turned}

-- what is known of a pass that has seen all writes
module _ (words : List ℕ) (views : List ClockView) (inv : ClockInvariant words views)
    (id : ℕ) (v : ClockView) (at : get_elem? views id ≡ some v) (live : v.pass.id.live ≡ true) (all : v.pass.seen ≡ inv.log ∷ []) where
  -- where the pass is the last, all others are gone
  has_each : IsLast v.pass.id → HasEach v.pass.seen v.pass.mine
  has_each last = record {
    once = λ i k.
        sym (total_last clock_pass_id views inv.tree id v at live last (clock_places i k)
        (λ j u at_u off. ap (count (is_place i k)) ((inv.each_view j u at_u).gone off)))
        ∙ (inv.tally i k ∙ ap (λ seen. one_if (within k (length (entries i seen)))) (sym all));
  }

  pub knows_of : KnowsClock v
  knows_of = record {
    one = all ∙ ap (λ seen. entries 0 seen ∷ []) (sym all);
    legal = subst (λ seen. AreAccepted (at_stamp 0) (entries 0 seen)) (sym all) inv.legal;
    all_entries = has_each;
  }

  pub rests_of : v.heard ≡ [] → IsRestingView v
  rests_of none = record {
    live = live;
    one = knows_of.one;
    legal = knows_of.legal;
    known = λ t. knows_of;
  }

module _ (id : ℕ) (v : ClockView) (live : v.pass.id.live ≡ true) where
  no_gone : {A : Type 0} → v.pass.id.live ≡ false → A
  no_gone off = absurd (true≢false (sym live ∙ off))

  -- where the words stay, the pass may see all writes
  pub looks_at : (words : List ℕ) (views : List ClockView) → ClockInvariant words views → get_elem? views id ≡ some v
      → (w : ClockView) × ClockInvariant words (slice_set views id w) × Loaded v words w
  looks_at words views inv at =
      let w = having_read inv.log v in
      let agrees = inv.each_view id v at in
      let next = turned words views inv id v w words inv.log at (begins_refl inv.log) inv.shows inv.legal
      (record { seen = goes_refl (inv.log ∷ []); heard = All-nil (λ ws. Begins ws inv.log); gone = no_gone }) refl (λ i k. refl) in (
        w,
        next.0,
        record {
          looks = record { seen = agrees.seen; mine = refl; id = refl };
          sees = record {
            shows = inv.shows;
            hears = record { begins = agrees.heard; none = refl };
            rests = rests_of words (slice_set views id w) next.0 id w (set_there views id v w at) live (ap (λ log. log ∷ []) (sym next.1)) refl;
          };
        },
      )

  pub looks : Turns ClockInvariant id v (λ x. x) (λ old before after new. Loaded old after new)
  looks words views inv at = looks_at words views inv at

  module _ (r : ClockReading) (w : Write) (ok : IsAccepted r w) where
    abbrev Goes : List ℕ → List ClockView → List ℕ → Type 0
    Goes words views words' = (u : ClockView) × ClockInvariant words' (slice_set views id u) × Exchanged w v words words' u

    -- the write's place is one more
    one_place : (log : List Write) (i k : ℕ)
        → count (is_place i k) (v.pass.mine ++ (0, length log + 1) ∷ []) + one_if (within k (length (entries i (log ∷ []))))
        ≡ count (is_place i k) v.pass.mine + one_if (within k (length (entries i ((log ++ w ∷ []) ∷ []))))
    one_place log zero k = omega (
      arith,
      count_place 0 0 k (length log + 1) v.pass.mine,
      within_more k (length log),
      ap (λ n. one_if (within k n)) (length-append log (w ∷ [])),
    )
    one_place log (suc i) k =
        let elsewhere : one_if (eqb 0 (suc i) && eqb (length log + 1) k) ≡ 0 = ap (λ b. one_if (b && eqb (length log + 1) k))
        (ne_eqb 0 (suc i) (λ e. omega arith)) in
        omega (arith, elsewhere, count_place 0 (suc i) k (length log + 1) v.pass.mine)

    -- the words are those of the reading: the write is made
    hits : (words : List ℕ) (views : List ClockView) → ClockInvariant words views → get_elem? views id ≡ some v → words ≡ cell_words r
        → Goes words views (cell_words (after_write r w))
    hits words views inv at same =
        let log = inv.log ++ w ∷ [] in
        let now : r ≡ reading_after inv.log = ap reading_in (sym same ∙ inv.shows) in
        let accepted : IsAccepted (reading_after inv.log) w = subst (λ x. IsAccepted x w) now ok in
        let shows : cell_words (after_write r w) ≡ cell_words (reading_after log) = ap cell_words
        (ap (λ x. after_write x w) now ∙ sym (clock_after-append (at_stamp 0) inv.log (w ∷ []))) in
        let more : Begins inv.log log = begins_more inv.log (w ∷ []) in
        let agrees = inv.each_view id v at in
        let u : ClockView = record { pass = record v.pass { seen = log ∷ []; mine = v.pass.mine ++ (0, length inv.log + 1) ∷ [] }; heard = [] } in
        let next = turned words views inv id v u (cell_words (after_write r w)) log at more shows (accepted_push (at_stamp 0) inv.log w inv.legal accepted)
        (record { seen = goes_refl (log ∷ []); heard = All-nil (λ ws. Begins ws log); gone = no_gone }) refl (one_place inv.log) in
        let stamp : slice_index (cell_words (after_write r w)) 0 ≡ slice_index words 0 + 1 = after_write_counts r w ∙ ap
        (λ ws. slice_index ws 0 + 1) (sym same) in (
          u,
          next.0,
          record {
            missed = λ e. let t = ap (λ ws. slice_index ws 0) e in absurd (omega arith);
            made = λ e. record {
              adds = record {
                seen = goes_trans agrees.seen (goes_one inv.log log more);
                before = inv.log;
                begins = agrees.seen.each 0;
                last = refl;
                mine = refl;
                id = refl;
              };
              accepted = accepted;
              sees = record {
                shows = shows;
                hears = record {
                  begins = All-weaker (λ ws. Begins ws inv.log) (λ ws. Begins ws log)
                      (λ ws t. begins_trans t more) v.heard agrees.heard;
                  none = refl;
                };
                rests = rests_of (cell_words (after_write r w)) (slice_set views id u) next.0 id u (set_there views id v u at) live
                    (ap (λ l. l ∷ []) (sym next.1)) refl;
              };
            };
          },
        )

    -- they are not: nothing is made
    misses : (words : List ℕ) (views : List ClockView) → ClockInvariant words views → get_elem? views id ≡ some v → Goes words views words
    misses words views inv at = let t = looks_at words views inv at in (t.0, t.1, record { missed = λ e. t.2; made = λ e. absurd (omega arith) })

    pub enters : Turns ClockInvariant id v (λ x. if pointwise nat_eq x (cell_words r) then cell_words (after_write r w) else x) (Exchanged w)
    enters words views inv at = tried (pointwise nat_eq words (cell_words r)) refl
      where
        tried : (b : Bool) → pointwise nat_eq words (cell_words r) ≡ b → Goes words views (if b then cell_words (after_write r w) else words)
        tried true e = hits words views inv at ((bytes_decides words (cell_words r)).0 e)
        tried false e = misses words views inv at
