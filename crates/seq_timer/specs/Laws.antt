-- What a history says of the generations that it cancels, claims and finishes.
use Rattle.std.specs.Prelude.{ℕ, ◌≡◌, ◌<◌, ◌≤◌, ◌-◌, ◌⊎◌, Bool, false, nat_eq, Option, Some, None, List, [], ◌∷◌, length, take, slice_get}
use Rattle.std.specs.List.{AllByRecursion, list_any}
use Rattle.seq_timer.specs.declared.context.Declared.{Declared}
use Rattle.seq_timer.specs.declared.context.Terms.{Terms}
use Rattle.seq_timer.specs.Histories.{Entry, Span, IsInside, claim_in, cancel_in, finish_in, state_after}

-- whether this generation is told
abbrev pub is_told : ℕ → Option ℕ → Bool
is_told generation None = false
is_told generation (Some told) = nat_eq told generation

-- whether a cancel of the history answers this generation
abbrev pub is_cancelled : ℕ → List Entry → Bool
is_cancelled generation history = list_any (λ e. is_told generation (cancel_in e.reply)) history

-- whether a claim of the history answers this generation
abbrev pub is_claimed : ℕ → List Entry → Bool
is_claimed generation history = list_any (λ e. is_told generation (claim_in e.reply)) history

-- each span has ended before the next begins
abbrev pub AreApart : List Span → Type 0
AreApart [] = Unit
AreApart (span ∷ spans) = AllByRecursion (λ later. span.finish < later.claim) spans × AreApart spans

-- one of the spans is of this generation, and has the state after so many entries inside
abbrev pub IsInOne : ℕ → ℕ → List Span → Type 0
IsInOne generation stamp [] = ⊥
IsInOne generation stamp (span ∷ spans) = ((span.generation ≡ generation) × IsInside span stamp) ⊎ IsInOne generation stamp spans

-- in each state inside the span its generation runs, and so the finish that ends it answers
pub record IsOfOneGeneration (declared : Declared) (terms : Terms) (history : List Entry) (span : Span) : Type 0 where
  pub runs : (stamp : ℕ) → IsInside span stamp → stamp ≤ length history → (state_after declared terms (take stamp history)).running ≡ Some span.generation
  pub finishes : (e : Entry) → slice_get history (span.finish - 1) ≡ Some e → finish_in e.reply ≡ Some span.generation
