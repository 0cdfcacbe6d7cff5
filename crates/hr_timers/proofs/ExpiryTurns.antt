-- What a turn of an expiry run leaves of what its pass knows.
use Rattle.std.proofs.Common.{◌≡◌, ℕ, ◌+◌, ◌<◌, List, [], ◌∷◌, ◌++◌, refl, ap, sym, ◌∙◌, subst, true, false, arith, length}
use Rattle.std.specs.Prelude.{Bool, unwrap_or}
use Rattle.std.proofs.lemmas.List.{append-nil}
use Rattle.ktime.specs.Readings.{ClockReading}
use Rattle.pass_names.specs.Counts.{count, drop_if, one_if, without_first}
use Rattle.pass_names.specs.Passes.{Begins, places}
use Rattle.pass_names.specs.SharedHistory.{LooksOn}
use Rattle.pass_names.proofs.Counts.{total-append}
use Rattle.pass_names.proofs.Passes.{begins_trans}
use Rattle.base_row.specs.declared.view.Claimed.{Claimed}
use Rattle.base_row.specs.declared.view.Opening.{Opening}
use Rattle.base_row.specs.Rules.{is_base_claim}
use Rattle.hr_timers.specs.declared.numbers.ClaimNumbers.{ClaimNumbers}
use Rattle.seq_timer.specs.declared.answer.Finished.{Finished}
use Rattle.seq_timer.specs.declared.context.Context.{Context}
use Rattle.seq_timer.specs.declared.event.EventBy.TheVariants as events
use Rattle.seq_timer.specs.declared.event.Reply.TheVariants as replies
use Rattle.hr_timers.specs.Known.{KnownOfTimers, MadeAt, OwnsClaim, claimed_as, count_of, timer_then}
use Rattle.hr_timers.proofs.OneClaim.{is_own}
use Rattle.hr_timers.specs.declared.answer.ClaimAnswer.TheVariants as claimings
use Rattle.hr_timers.specs.Calls.{ClaimsNextDue}
use Rattle.hr_timers.specs.Logged.{ClaimsLogged, FinishesLogged}
use Rattle.base_row.specs.Logs.{LogOf, kept}
use Rattle.seq_timer.specs.Steps.{restarted_by}
use Rattle.seq_timer.specs.Histories as seq
use Rattle.seq_timer.specs.declared.system.SystemEntry.{SystemEntry}
use Rattle.seq_timer.specs.Systems.{entries_of}
use Rattle.base_row.specs.declared.log.Noted.TheVariants as noteds
use Rattle.base_row.specs.declared.log.Receipt.{Receipt}
use Rattle.hr_timers.specs.Handlers.{KeepsPass, Meaning, asks}
use Rattle.hr_timers.specs.declared.handler.Restart.{Restart}
use Rattle.hr_timers.specs.Expiring.{Ran, claim_receipt, finish_receipt}

-- ---- claims

-- a claim that was just made stands
pub has_claim : (o : Opening) (v w : KnownOfTimers) (x : Context) (base : ℕ) (reading : ClockReading) (c : ClaimNumbers)
    → ClaimsNextDue o v w x base reading c → OwnsClaim o w c
has_claim o v w x base reading c r = record {
  within = r.within;
  stands = omega (
    arith,
    ap (count (is_base_claim c.timer c.generation c.base)) r.claims,
    total-append
        (λ (d : Claimed). one_if (is_base_claim c.timer c.generation c.base d)) v.claims (claimed_as c ∷ []),
    ap one_if (is_own c),
  );
}

pub still_has : (o : Opening) (v w : KnownOfTimers) (c : ClaimNumbers) → KeepsPass v w → OwnsClaim o v c → OwnsClaim o w c
still_has o v w c keeps has = record { within = has.within; stands = subst (λ (l : List Claimed). 0 < count_of c l) (sym keeps.claims) has.stands }

-- what stands last, and nowhere before, is taken off again
taken_off : (p : Claimed → Bool) (xs : List Claimed) (x : Claimed) → count p xs ≡ 0 → p x ≡ true → without_first p (xs ++ x ∷ []) ≡ xs
taken_off p [] x none is = ap (λ b. drop_if b x [] []) is
taken_off p (y ∷ ys) x none is = at (p y) refl (taken_off p ys x (omega (arith, none)) is)
  where
    at : (b : Bool) → p y ≡ b → without_first p (ys ++ x ∷ []) ≡ ys → without_first p ((y ∷ ys) ++ x ∷ []) ≡ y ∷ ys
    at true e rest = absurd (omega (arith, none, ap one_if e))
    at false e rest = ap (λ b. drop_if b y (ys ++ x ∷ []) (without_first p (ys ++ x ∷ []))) e ∙ ap (λ l. y ∷ l) rest

-- ---- a turn

pub keeps_trans : (u v w : KnownOfTimers) → KeepsPass u v → KeepsPass v w → KeepsPass u w
keeps_trans u v w a b = record { id = b.id ∙ a.id; claims = b.claims ∙ a.claims; seen = begins_trans a.seen b.seen; mine = begins_trans a.mine b.mine }

mine_begins : (v w : KnownOfTimers) (t : ℕ) (x : List SystemEntry) (es : List seq.Entry) → MadeAt v w t x es → Begins v.mine w.mine
mine_begins v w t x es made = record { rest = places t (length (entries_of t x)) es; whole = made.mine }

-- a claim, its function and its finish leave the pass's name and claims
pub turn_keeps : {A : Type 0} (m : Meaning A) (o : Opening) (x : Context) (base : ℕ) (reading : ClockReading) (k : KnownOfTimers) (h : A)
    (k' : KnownOfTimers) (h' : A) (c : ClaimNumbers) (claimed : KnownOfTimers)
    → ClaimsNextDue o k claimed x base reading c → Ran m o reading c claimed h k' h' → KeepsPass k k'
turn_keeps m o x base reading k h k' h' c claimed next ran =
    let f = ran.finishes in
    record {
      id = f.made.id ∙ (ran.keeps.id ∙ next.made.id);
      claims = f.claims ∙ (ap (without_first (is_base_claim c.timer c.generation c.base)) (ran.keeps.claims ∙ next.claims) ∙ taken_off
          (is_base_claim c.timer c.generation c.base) k.claims (claimed_as c) next.fresh (is_own c));
      seen = begins_trans next.made.from (begins_trans next.made.seen (begins_trans ran.keeps.seen (begins_trans f.made.from f.made.seen)));
      mine = begins_trans (mine_begins k claimed c.timer next.at _ next.made) (begins_trans ran.keeps.mine (mine_begins ran.done k' c.timer f.at _ f.made));
    }

-- a log has the receipt of a claim behind its own
pub claim_noted : (o : Opening) (v w : KnownOfTimers) (x : Context) (base : ℕ) (reading : ClockReading) (c : ClaimNumbers) (log log' : LogOf Receipt)
    → ClaimsLogged kept o v w x base reading (claimings.Claimed c) log log' → log'.receipts ≡ log.receipts ++ claim_receipt reading c ∷ []
claim_noted o v w x base reading c log log' l =
    let r = l.claims in
    ap (λ (k : LogOf Receipt). k.receipts) l.logged ∙ (λ i. log.receipts ++ record {
      timer = c.timer;
      number = sym r.number i;
      event = events.Claim (sym r.there i) reading;
      reply = noteds.Entry (replies.Claim (unwrap_or (r.armed i) 0));
    } ∷ [])

-- and of a finish
pub finish_noted : (o : Opening) (v w : KnownOfTimers) (c : ClaimNumbers) (restart : Restart) (f : Finished) (log log' : LogOf Receipt)
    → (l : FinishesLogged kept o v w c (asks restart) f log log')
    → log'.receipts ≡ log.receipts ++ finish_receipt c restart (timer_then o l.finishes.at c.timer) ∷ []
finish_noted o v w c restart f log log' l =
    let t = timer_then o l.finishes.at c.timer in
    ap (λ (k : LogOf Receipt). k.receipts) l.logged ∙ (λ i. log.receipts ++ record {
      timer = c.timer;
      number = t.stamp + 1;
      event = events.Finish (asks restart);
      reply = noteds.Entry (replies.Finish (unwrap_or (l.finishes.runs i) 0) (restarted_by t (asks restart)));
    } ∷ [])

-- ---- cancel

-- looks, and then a call that made no entry
pub looks_then : (k v w : KnownOfTimers) (t : ℕ) (x : List SystemEntry) → LooksOn k v → MadeAt v w t x [] → w.claims ≡ v.claims → LooksOn k w
looks_then k v w t x first made claims = record {
  seen = begins_trans first.seen (begins_trans made.from made.seen);
  mine = made.mine ∙ (append-nil v.mine ∙ first.mine);
  id = made.id ∙ first.id;
  claims = claims ∙ first.claims;
}
