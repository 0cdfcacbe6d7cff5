-- Calls of a lane one after another.
use Rattle.std.proofs.Common.{◌≡◌, ◌≢◌, arith, ◌<◌, ◌≤◌, ◌+◌, ℕ, length, take, get_or, Bool, true, false, List, [], ◌∷◌, ◌++◌, map, nat_eq, refl, sym, ap, ◌∙◌, subst}
use Rattle.std.specs.Prelude.{filter, if◌then◌else◌, OnOk, Result, Ok, Err, is_err}
use Rattle.std.proofs.lemmas.Bool.Decides.{nat_tests}
use Rattle.std.proofs.lemmas.List.Elements.{filter-append}
use Rattle.std.proofs.lemmas.List.{map-append, append-nil, append_assoc, take_all, take_more}
use Rattle.record_text.specs.declared.record.Answer.{Answer}
use Rattle.script_text.specs.declared.script.Call.{Call}
use Rattle.script_text.specs.declared.script.LaneCall.{LaneCall}
use Rattle.script_text.specs.declared.script.Round.{Round}
use Rattle.lane_notes.specs.declared.lane.Lane.{Lane}
use Rattle.lane_notes.specs.Called.{LaneOf, lane_of}
use Rattle.lane_notes.specs.Rounds.{AnswersCall, CalledAll, MakesCalls, RunsLane, next_of}
use Rattle.lane_notes.specs.Worlds.{ArePassesOf, KeepPasses, WorldOf}
use Rattle.lane_run.proofs.Keeping.{keep_refl, keep_trans}

called_append : (x : WorldOf) (l m n : LaneOf) (cs ds : List Call) (xs ys : List Answer) → CalledAll x l cs xs m → CalledAll x m ds ys n
    → CalledAll x l (cs ++ ds) (xs ++ ys) n
called_append x l m n [] ds [] ys one two = subst (λ k. CalledAll x k ds ys n) one two
called_append x l m n (c ∷ cs) ds (a ∷ xs) ys one two = (one.0, one.1, one.2, called_append x (next_of one.0) m n cs ds xs ys one.3 two)
called_append x l m n [] ds (a ∷ xs) ys one two = absurd one
called_append x l m n (c ∷ cs) ds [] ys one two = absurd one

makes_append : {x : WorldOf} {old mid new : Lane} {cs ds : List Call} → MakesCalls x old mid cs → MakesCalls x mid new ds → MakesCalls x old new (cs ++ ds)
makes_append {x} {old} {cs = cs} {ds = ds} one two = record {
  given = one.given ++ two.given;
  answers = two.answers ∙ ap (λ xs. xs ++ two.given) one.answers ∙ append_assoc old.answers.items one.given two.given;
  calls = called_append x _ _ _ cs ds one.given two.given one.calls two.calls;
}

-- one call, after which the lane is about to make its next
pub makes_one : {x : WorldOf} {old mid new : Lane} {call : Call} → mid.label ≡ old.label → AnswersCall x old call mid → new.answers ≡ mid.answers
    → lane_of new ≡ next_of (lane_of mid) → MakesCalls x old new (call ∷ [])
makes_one {mid = mid} same made answers next = record {
  given = made.given ∷ [];
  answers = ap (λ v. v.items) answers ∙ made.answers;
  calls = (lane_of mid, same, made.called, next);
}

-- the calls of a lane among lines
abbrev pub calls_of_lane : ℕ → List LaneCall → List Call
calls_of_lane lane cs = map (λ (x : LaneCall). x.call) (filter (λ (x : LaneCall). nat_eq x.lane lane) cs)

-- among one more
calls_next : (lane : ℕ) (xs : List LaneCall) (i : ℕ) (d : LaneCall) (b : Bool) → i < length xs → nat_eq (get_or xs i d).lane lane ≡ b
    → calls_of_lane lane (take (i + 1) xs) ≡ calls_of_lane lane (take i xs) ++ (if b then (get_or xs i d).call ∷ [] else [])
calls_next lane xs i d b here is =
    let c = get_or xs i d in
    let own = λ (x : LaneCall). nat_eq x.lane lane in
    ap (calls_of_lane lane) (take_more xs i d here)
    ∙ ap (map (λ (x : LaneCall). x.call)) (filter-append own (take i xs) (c ∷ []) ∙ ap (λ t. filter own (take i xs) ++ (if t then c ∷ [] else [])) is)
    ∙ map-append (λ (x : LaneCall). x.call) (filter own (take i xs)) (if b then c ∷ [] else [])
    ∙ ap (λ cs. calls_of_lane lane (take i xs) ++ cs) (alone c b)
  where
    alone : (c : LaneCall) (t : Bool) → map (λ (x : LaneCall). x.call) (if t then c ∷ [] else []) ≡ (if t then c.call ∷ [] else [])
    alone c true = refl
    alone c false = refl

-- a lane has come so far in a round: unless it wants memory, it has made these calls
pub record HasCome (x : WorldOf) (old new : Lane) (cs : List Call) : Type 0 where
  pub pass : ArePassesOf x new.pass
  pub keeps : KeepPasses old.pass new.pass
  pub name : new.label.lane ≡ old.label.lane
  pub made : new.wants_memory ≡ false → MakesCalls x old new cs

-- past a line of its own
pub come_on : {x : WorldOf} (xs : List LaneCall) (i : ℕ) (d : LaneCall) {old mid new : Lane} → i < length xs
    → nat_eq (get_or xs i d).lane mid.label.lane ≡ true → HasCome x old mid (calls_of_lane old.label.lane (take i xs)) → ArePassesOf x new.pass
    → KeepPasses mid.pass new.pass → new.label.lane ≡ mid.label.lane → (new.wants_memory ≡ false → mid.wants_memory ≡ false)
    → (new.wants_memory ≡ false → MakesCalls x mid new ((get_or xs i d).call ∷ [])) → HasCome x old new (calls_of_lane old.label.lane (take (i + 1) xs))
come_on {x} xs i d {old} {new = new} here own so_far pass keeps name before made = record {
  pass = pass;
  keeps = keep_trans so_far.keeps keeps;
  name = name ∙ so_far.name;
  made = λ quiet. subst (MakesCalls x old new)
      (sym (calls_next old.label.lane xs i d true here (ap (nat_eq (get_or xs i d).lane) (sym so_far.name) ∙ own)))
      (makes_append (so_far.made (before quiet)) (made quiet));
}

-- past another lane's line
pub come_past : {x : WorldOf} (xs : List LaneCall) (i : ℕ) (d : LaneCall) {old mid : Lane} → i < length xs
    → nat_eq (get_or xs i d).lane mid.label.lane ≡ false → HasCome x old mid (calls_of_lane old.label.lane (take i xs))
    → HasCome x old mid (calls_of_lane old.label.lane (take (i + 1) xs))
come_past {x} xs i d {old} {mid} here other so_far =
    subst (HasCome x old mid) (sym (calls_next old.label.lane xs i d false here (ap (nat_eq (get_or xs i d).lane) (sym so_far.name) ∙ other)
    ∙ append-nil _)) so_far

pub come_none : {x : WorldOf} (lane : Lane) → ArePassesOf x lane.pass → HasCome x lane lane []
come_none lane pass = record {
  pass = pass;
  keeps = keep_refl;
  name = refl;
  made = λ quiet. record { given = []; answers = sym (append-nil lane.answers.items); calls = refl };
}

-- a lane that has come past all lines has run in the round
pub come_last : {x : WorldOf} (r : Round) (i : ℕ) {xs : List LaneCall} {old new : Lane} → xs ≡ r.calls → length xs ≤ i
    → HasCome x old new (calls_of_lane old.label.lane (take i xs)) → RunsLane x r old new
come_last {x} r i {xs} {old} {new} is past come = record {
  pass = come.pass;
  name = come.name;
  keeps = come.keeps;
  made = λ quiet. record {
    name = come.name;
    calls = subst (λ ys. MakesCalls x old new (calls_of_lane old.label.lane ys)) (take_all i xs past ∙ is) (come.made quiet);
  };
}

-- what holds of a result that is no error
pub no_error : {T E : Type 0} (r : Result T E) {P : Type 0} → is_err r ≡ false → OnOk r P → P
no_error (Ok v) fine holds = holds
no_error (Err e) fine holds = absurd (cc)

pub other_lane : (a b : ℕ) → a ≢ b → nat_eq a b ≡ false
other_lane a b other = grind (arith, nat_tests, other)

-- what holds of a result that is no error, from two facts of it
pub on_both : {T E : Type 0} (r : Result T E) {A B P : Type 0} → OnOk r A → OnOk r B → (A → B → P) → OnOk r P
on_both (Ok v) one two both = both one two
on_both (Err e) one two both = one
