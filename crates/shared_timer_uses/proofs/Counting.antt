-- Entries that passes have made, added up.
use Rattle.std.proofs.Common.{◌≡◌, ℕ, ◌+◌, ◌≢◌, eqb, ◌&&◌, List, [], ◌∷◌, length, refl, ap, sym, ◌∙◌, subst, length-append, arith}
use Rattle.std.proofs.lemmas.Bool.{ne_eqb}
use Rattle.pass_names.specs.Counts.{count, one_if}
use Rattle.pass_names.specs.Passes.{is_place, places}
use Rattle.pass_names.proofs.Counts.{total-append}
use Rattle.pass_names.proofs.Passes.{begins_trans, places_of_one}
use Rattle.seq_timer.specs.Events.{Asked}
use Rattle.seq_timer.specs.declared.observation.Peek.{Peek}
use Rattle.seq_timer.specs.declared.system.SystemEntry.{SystemEntry}
use Rattle.seq_timer.specs.Histories as seq
use Rattle.seq_timer.specs.Steps.{Timer}
use Rattle.seq_timer.specs.Systems.{entries_of}
use Rattle.seq_timer.specs.Tables.{timer_at}
use Rattle.seq_timer.proofs.Limits.{stamp-after_all}
use Rattle.base_row.specs.declared.view.Opening.{Opening}
use Rattle.base_row.specs.Logs.{all_pushed, receipts_of}
use Rattle.base_row.specs.declared.log.Receipt.{Receipt}
use Rattle.hr_timers.specs.declared.answer.StartAnswer.{StartAnswer}
use Rattle.hr_timers.specs.Known.{HasEachPlace, KnownOfTimers, MadeAt, timer_then}
use Rattle.hr_timers.specs.Calls.{Peeks, start_entries}
use Rattle.hr_timers.specs.Logged.{StartsLogged}
use Rattle.shared_timer_uses.specs.Counting.{with_receipt}
use Rattle.shared_timer_uses.specs.declared.sink.Counted.{Counted}
use Rattle.shared_timer_uses.specs.Callers.{MakesEntries, known_timer}
use Rattle.hr_timers.proofs.Moments.{timer_after, timer_own}
use Rattle.shared_timer_uses.proofs.Knowing.{no_places}

-- ---- one call

places_length : (t n : ℕ) (es : List seq.Entry) → length (places t n es) ≡ length es
places_length t n [] = refl
places_length t n (e ∷ es) = omega (arith, places_length t (n + 1) es)

places_else : (t n i m : ℕ) (es : List seq.Entry) → i ≢ t → count (is_place i m) (places t n es) ≡ 0
places_else t n i m [] apart = refl
places_else t n i m (e ∷ es) apart =
    omega (
      arith,
      places_else t (n + 1) i m es apart,
      ap (λ b. one_if (b && eqb (n + 1) m)) (ne_eqb t i (λ e. apart (sym e))),
    )

pub makes_made : (v w : KnownOfTimers) (t : ℕ) (x : List SystemEntry) (es : List seq.Entry) → MadeAt v w t x es → w.claims ≡ v.claims → MakesEntries t (length es) v w
makes_made v w t x es made claims =
    let own = places t (length (entries_of t x)) es in
    record {
      keeps = record {
        id = made.id;
        claims = claims;
        seen = begins_trans made.from made.seen;
        mine = record { rest = own; whole = made.mine };
      };
      mine = omega (arith, ap length made.mine, length-append v.mine own, places_length t (length (entries_of t x)) es);
      elsewhere = λ i m apart. omega (
        arith,
        ap (count (is_place i m)) made.mine,
        total-append (λ (p : ℕ × ℕ). one_if (is_place i m p)) v.mine own,
        places_else t (length (entries_of t x)) i m es apart,
      );
    }

-- ---- starts

-- a sink that counts has counted as many as it was given
pub all_counted : (s : Counted) (rs : List Receipt) → (all_pushed with_receipt s rs).made ≡ s.made + length rs
all_counted s [] = omega arith
all_counted s (r ∷ rs) = omega (arith, all_counted (with_receipt s r) rs)

receipts_length : (t n : ℕ) (es : List seq.Entry) → length (receipts_of t n es) ≡ length es
receipts_length t n [] = refl
receipts_length t n (e ∷ es) = omega (arith, receipts_length t (n + 1) es)

-- a start has made as many entries as it gave receipts of
pub start_makes : (o : Opening) (v w : KnownOfTimers) (t : ℕ) (asked : Asked) (a : StartAnswer) (s s' : Counted) → s.made ≡ 0
    → StartsLogged with_receipt o v w t asked a s s' → MakesEntries t s'.made v w
start_makes o v w t asked a s s' none l =
    let r = l.starts in
    let u = timer_then o r.at t in
    let es = start_entries u asked r.sent r.last a in
    subst (λ n. MakesEntries t n v w)
    (omega (
      arith,
      ap (λ (k : Counted). k.made) l.logged,
      all_counted s (receipts_of t u.stamp es),
      receipts_length t u.stamp es,
      none,
    )) (makes_made v w t r.at es r.made r.claims)

-- ---- threads

-- the history of the only timer has as many entries as the last pass has places
pub all_of_one : (o : Opening) (k : KnownOfTimers) → length o.timers ≡ 1 → (timer_at o.timers 0).stamp ≡ 0 → HasEachPlace o k
    → ((i m : ℕ) → i ≢ 0 → count (is_place i m) k.mine ≡ 0)
    → (known_timer o k 0).stamp ≡ length k.mine
all_of_one o k one fresh each none =
    let n = length (entries_of 0 k.seen) in
    omega (
      arith,
      ap (λ (x : Timer). x.stamp) (timer_own o k.seen 0),
      stamp-after_all (timer_at o.timers 0) (entries_of 0 k.seen),
      fresh,
      places_of_one 0 n k.mine (λ m. each.once 0 m (omega (arith, one))) none,
    )

pub peek_counts : (o : Opening) (v w : KnownOfTimers) (p : Peek) → length o.timers ≡ 1 → (timer_at o.timers 0).stamp ≡ 0 → Peeks o v w 0 p → HasEachPlace o w
    → ((i m : ℕ) → i ≢ 0 → count (is_place i m) v.mine ≡ 0) → p.stamp ≡ length v.mine
peek_counts o v w p one fresh look each none =
    let mine = no_places v w 0 look.at look.made in
    ap (λ (x : Peek). x.stamp) look.fits ∙ (ap (λ (x : Timer). x.stamp) (sym (timer_after o v w 0 look.at [] look.made))
    ∙ (all_of_one o w one fresh each (λ i m apart. ap (count (is_place i m)) mine ∙ none i m apart) ∙ ap length mine))
