-- What is known of a write that was made after looks, and of one that was refused.
use Rattle.std.proofs.Common.{◌≡◌, ◌≢◌, ℕ, ◌+◌, Bool, true, false, List, [], ◌∷◌, ◌++◌, ◌≤◌, length, refl, ap, sym, ◌∙◌, subst, ◌⊎◌, inl, inr, length-append, arith}
use Rattle.std.specs.Prelude.{MatchBool, All}
use Rattle.std.proofs.lemmas.List.Elements.{All-weaker}
use Rattle.ktime.specs.Readings.{ClockReading}
use Rattle.ktime.specs.declared.write.Write.{Write}
use Rattle.pass_names.specs.Passes.{Begins, Looks, places}
use Rattle.pass_names.proofs.Passes.{begins_trans, goes_trans}
use Rattle.clock_cell.specs.declared.view.ClockView.{ClockView}
use Rattle.clock_cell.specs.Views.{writes, seen_reading, KnowsClock, Hears, AcceptsWrite}
use Rattle.clock_cell.specs.Words.{cell_words, reading_in}
use Rattle.clock_cell.specs.Plays.{Loaded, MadeWrite}
use Rattle.clock_cell.specs.Turns.{Misses}
use Rattle.ktime.specs.Clocks.{last_stamp}
use Rattle.ktime.proofs.Writes.{shown_by, stamp_after}

module _ (w : Write) (old new : ClockView) (r : ClockReading) where
  -- the stamp of the reading after the write is its place
  entered : MadeWrite w old (cell_words r) new → AcceptsWrite w old new r
  entered t =
      let shows : r ≡ seen_reading new = ap reading_in t.sees.shows in
      let count : r.stamp ≡ length (writes new) = ap (λ x. x.stamp) shows ∙ stamp_after (writes new) in
      let stamp : length t.adds.before + 1 ≡ r.stamp = omega (arith, count, ap length t.adds.last, length-append t.adds.before (w ∷ [])) in
      record {
        adds = t.adds;
        accepted = t.accepted;
        shows = shows;
        count = count;
        place = t.adds.mine ∙ ap (λ n. old.pass.mine ++ (0, n) ∷ []) stamp;
      }

  pub taken : (b : Bool) (seen : ClockReading)
      → MatchBool b (MadeWrite w old (cell_words r) new) ((words : List ℕ) × (words ≢ cell_words seen) × Loaded old words new)
      → MatchBool b (AcceptsWrite w old new r) (Misses seen old new)
  taken true seen t = entered t
  taken false seen t = record { looks = t.2.looks; other = λ e. t.1 (t.2.sees.shows ∙ ap cell_words (sym e)) }

-- the clock takes only so many writes
pub few_writes : (v : ClockView) → KnowsClock v → length (writes v) ≤ last_stamp
few_writes v knows = omega (arith, stamp_after (writes v), (shown_by (seen_reading v) (writes v) refl knows.legal).counted)

module _ (old mid new : ClockView) where
  -- what was heard before the last turn begins what is seen after it
  pub hears_again : (old.heard ≡ mid.heard) ⊎ Hears old mid → Begins (writes mid) (writes new) → Hears mid new → Hears old new
  hears_again (inl same) b last = record { begins = subst (λ h. All (λ ws. Begins ws (writes new)) h) (sym same) last.begins; none = last.none }
  hears_again (inr a) b last = record {
    begins = All-weaker (λ ws. Begins ws (writes mid)) (λ ws. Begins ws (writes new)) (λ ws t. begins_trans t b) old.heard a.begins;
    none = last.none;
  }

  pub takes_again : (w : Write) (r : ClockReading) → Looks old.pass mid.pass → AcceptsWrite w mid new r → AcceptsWrite w old new r
  takes_again w r a t = record {
    adds = record {
      seen = goes_trans a.seen t.adds.seen;
      before = t.adds.before;
      begins = begins_trans (a.seen.each 0) t.adds.begins;
      last = t.adds.last;
      mine = t.adds.mine ∙ ap (λ ms. ms ++ places 0 (length t.adds.before) (w ∷ [])) a.mine;
      id = t.adds.id ∙ a.id;
    };
    accepted = t.accepted;
    shows = t.shows;
    count = t.count;
    place = t.place ∙ ap (λ ms. ms ++ (0, r.stamp) ∷ []) a.mine;
  }
