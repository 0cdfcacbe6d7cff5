-- What a step has to show of the base or the timer and the seat that it changes; all else stays.
use Rattle.base_row.specs.Places.{counter_at, lock_at, word_at}
use Rattle.std.proofs.Common.{◌≡◌, ℕ, ◌+◌, ◌<◌, ◌≤◌, ◌≢◌, true, List, [], ◌∷◌, ◌++◌, length, map, set, refl, ap, sym, ◌∙◌, subst, ⊎_elim, arith, true≢false, ◌⊎◌, ◌%◌, inl, inr, None}
use Rattle.std.specs.Prelude.{slice_index, slice_set, Option, Some}
use Rattle.std.proofs.lemmas.Bool.{cases_eq, eq-eqb}
use Rattle.std.proofs.lemmas.List.{length-set, get_or-set_same, get_or-set_other, map-append, map-set}
use mathlib.Core.Option.{some}
use lib.ListN.{get_elem?}
use Rattle.atomic_table.specs.Table.{State}
use Rattle.atomic_table.proofs.Lists.{at_snoc, set_here, set_else, at_map}
use Rattle.pass_names.specs.Counts.{one_if, total}
use Rattle.pass_names.specs.Names.{IsPassTree}
use Rattle.pass_names.specs.Passes.{Begins}
use Rattle.pass_names.proofs.Counts.{total_set, total_two, map_kept, all_set, total_grown, total_merged}
use Rattle.pass_names.proofs.Passes.{begins_refl, begins_trans, begins_nil}
use Rattle.seq_timer.specs.declared.system.SystemEntry.{SystemEntry}
use Rattle.base_row.specs.declared.view.HeldContent.{HeldContent}
use Rattle.base_row.specs.declared.view.BaseView.{BaseView}
use Rattle.seq_timer.specs.Systems.{BaseContent, System, shifts_of, system_after}
use Rattle.base_row.specs.Rules.{base_pass_id, base_place, held_in, carried_in, HeldHolds, Token, has, owed, slot_of, IsIn, Place, Carry, Hold}
use Rattle.base_row.specs.Rules.{takes_at, PassHolds, RowHolds}
use Rattle.base_row.specs.declared.view.Opening.{Opening}
use Rattle.pass_names.proofs.Names.{one_name}
use Rattle.pass_names.specs.declared.PassId.{PassId}

-- What holds of each number that stands at a place of its own in a list, once one of them was written.
each_set : (place : ℕ → ℕ) → ((c b : ℕ) → place c ≡ place b → c ≡ b) → (xs : List ℕ) (b x : ℕ) (P : ℕ → ℕ → Type 0) → place b < length xs → P b x
    → ((c : ℕ) → c ≢ b → P c (slice_index xs (place c))) → (c : ℕ) → P c (slice_index (set xs (place b) x) (place c))
each_set place apart xs b x P inside here else c = ⊎_elim
    (λ (e : c ≡ b). subst (λ q. P q (slice_index (set xs (place b) x) (place q))) (sym e)
    (subst (λ y. P b y) (sym (get_or-set_same xs (place b) x 0 inside)) here))
    (λ n. subst (λ y. P c y) (sym (get_or-set_other xs (place b) (place c) x 0 (λ e. n (apart c b e)))) (else c n))
    (cases_eq c b)

-- a lock word; and a word that a pass knows
pub at_lock : (words : List ℕ) (b word : ℕ) (P : ℕ → ℕ → Type 0) → lock_at b < length words → P b word
    → ((c : ℕ) → c ≢ b → P c (slice_index words (lock_at c))) → (c : ℕ) → P c (slice_index (set words (lock_at b) word) (lock_at c))
at_lock = each_set lock_at (λ c b e. omega arith)

pub at_met : (met : List ℕ) (b word : ℕ) (P : ℕ → ℕ → Type 0) → b < length met → P b word
    → ((c : ℕ) → c ≢ b → P c (slice_index met c)) → (c : ℕ) → P c (slice_index (set met b word) c)
at_met = each_set (λ b. b) (λ c b e. e)

pub some_same : (h g : HeldContent BaseContent) → Some h ≡ Some g → h ≡ g
some_same h g e = cc

pub no_lock : (h : HeldContent BaseContent) → None ≡ Some h → ⊥
no_lock h e = cc

pub holds_one : (v : BaseView BaseContent) (h : HeldContent BaseContent) → v.held ≡ Some h → held_in h.base v.held ≡ 1
holds_one v h e = ap (held_in h.base) e ∙ ap one_if (eq-eqb h.base h.base refl)

pub carries_one : (v : BaseView BaseContent) (t : ℕ) → v.carry ≡ Some t → carried_in t v.carry ≡ 1
carries_one v t e = ap (carried_in t) e ∙ ap one_if (eq-eqb t t refl)

-- what a pass has depends neither on its name nor on what it has seen and met
pub has_kept : (o : Opening) (x : Token) (v : BaseView BaseContent) (id : PassId) (seen heard : List SystemEntry) (met : List ℕ)
    → has o x (record v { id = id; seen = seen; heard = heard; met = met }) ≡ has o x v
has_kept o (Place t k) v id seen heard met = refl
has_kept o x v id seen heard met = refl

-- what a pass knows is true that has just seen the whole history
pub fits_whole : (o : Opening) (words : List ℕ) (v : BaseView BaseContent) → v.heard ≡ [] → v.id.live ≡ true → length v.met ≡ o.bases
    → ((h : HeldContent BaseContent) → v.held ≡ Some h → HeldHolds o v.seen words v h)
    → ((b : ℕ) → b < o.bases → slice_index v.met b ≤ slice_index words (lock_at b))
    → ((b k : ℕ) → 0 < takes_at b k v → k + k ≤ slice_index v.met b + held_in b v.held) → PassHolds o v.seen words v
fits_whole o words v heard live full held met takes = record {
  seen = begins_refl v.seen;
  heard = subst (λ l. Begins l v.seen) (sym heard) (begins_nil v.seen);
  held = held;
  carry = λ t e. refl;
  wide = omega (arith, full);
  full = λ _. full;
  met = met;
  takes = takes;
  first = λ _ name b. refl;
  gone = λ off. absurd (true≢false (sym live ∙ off));
}

module _ (o : Opening) (log : List SystemEntry) (s : State (Option BaseContent) (BaseView BaseContent)) (home : RowHolds o log s) where
  abbrev w : System
  w = system_after o.timers log

  -- The seats are other than before, and have together as much.
  pub reviewed : (views : List (BaseView BaseContent)) → ((x : Token) → total (has o x) views ≡ total (has o x) s.views)
      → ((j : ℕ) (u : BaseView BaseContent) → get_elem? views j ≡ some u → PassHolds o log s.words u)
      → IsPassTree (map base_pass_id views) → RowHolds o log record { words = s.words; homes = s.homes; views = views }
  reviewed views same each tree = record {
    allowed = home.allowed;
    words_len = home.words_len;
    homes_len = home.homes_len;
    each_slot = home.each_slot;
    each_timer = home.each_timer;
    each_standing = home.each_standing;
    each_counter = home.each_counter;
    no_counter = home.no_counter;
    rings = home.rings;
    counters_len = home.counters_len;
    each_view = each;
    tree = tree;
    tokens = λ x h. same x ∙ home.tokens x h;
  }

  -- One seat is other than before.
  module _ (id : ℕ) (v v' : BaseView BaseContent) (at : get_elem? s.views id ≡ some v) (same_id : base_pass_id v' ≡ base_pass_id v) where
    pub kept_tree : IsPassTree (map base_pass_id (set s.views id v'))
    kept_tree = subst (λ ls. IsPassTree ls) (sym (map_kept base_pass_id s.views id v v' at same_id)) home.tree

    pub turned : PassHolds o log s.words v' → ((x : Token) → has o x v' ≡ has o x v)
        → RowHolds o log record { words = s.words; homes = s.homes; views = slice_set s.views id v' }
    turned fits same = reviewed (slice_set s.views id v') (λ x. omega (arith, total_set (has o x) s.views id v v' at, same x))
        (all_set (λ u. PassHolds o log s.words u) s.views id v' fits (λ j u n e. home.each_view j u e)) kept_tree

    -- the pass has all that there is of this
    abbrev HasAll : Token → Type 0
    HasAll x = total (has o x) s.views ≡ has o x v

    alone : (x : Token) → HasAll x → (j : ℕ) (u : BaseView BaseContent) → j ≢ id → get_elem? s.views j ≡ some u → has o x u ≡ 0
    alone x all j u n at_u = omega (arith, total_two (has o x) s.views id j v u (λ q. n (sym q)) at at_u, all)

    -- So are history and words: what has changed of a base or a timer is all the pass's own, and what it has of each kind has changed by as much.
    module _ (log' : List SystemEntry) (words : List ℕ) (more : Begins log log') where
      abbrev w' : System
      w' = system_after o.timers log'

      pub counted : ((x : Token) → IsIn o x → has o x v' + owed w s.words x ≡ has o x v + owed w' words x)
          → (x : Token) → IsIn o x → total (has o x) (set s.views id v') ≡ owed w' words x
      counted change x h = omega (arith, total_set (has o x) s.views id v v' at, change x h, home.tokens x h)

      pub fits_on : ((b : ℕ) → b < o.bases → slice_index s.words (lock_at b) ≤ slice_index words (lock_at b))
          → ((b : ℕ) → b < o.bases → HasAll (Hold b) ⊎ ((w'.bases b ≡ w.bases b) × (slice_index words (lock_at b) ≡ slice_index s.words (lock_at b))))
          → ((t : ℕ) → HasAll (Carry t) ⊎ (w'.timers t ≡ w.timers t))
          → (((v.id.live ≡ true) × (v.id.name ≡ [])) ⊎ ((b : ℕ) → shifts_of b log' ≡ shifts_of b log))
          → PassHolds o log' words v' → (j : ℕ) (u : BaseView BaseContent) → get_elem? (set s.views id v') j ≡ some u → PassHolds o log' words u
      fits_on rise bases timers shifts fits = all_set (λ u. PassHolds o log' words u) s.views id v' fits (λ j u n at_u.
          let old = home.each_view j u at_u in record {
            seen = begins_trans old.seen more;
            heard = begins_trans old.heard more;
            held = λ h e. let t = old.held h e in ⊎_elim
                (λ all. absurd (omega (arith, alone (Hold h.base) all j u n at_u, holds_one u h e)))
                (λ same. record { within = t.within; seen = t.seen; whole = t.whole ∙ sym same.0; word = same.1 ∙ t.word; number = t.number })
                (bases h.base t.within);
            carry = λ t e. ⊎_elim
                (λ all. absurd (omega (arith, alone (Carry t) all j u n at_u, carries_one u t e))) (λ same. old.carry t e ∙ sym same) (timers t);
            wide = old.wide;
            full = old.full;
            met = λ b h. omega (arith, old.met b h, rise b h);
            takes = old.takes;
            first = λ live name b. ⊎_elim
                (λ ours. absurd (one_name (map base_pass_id s.views) home.tree id j (base_pass_id v) (base_pass_id u) (λ q. n (sym q))
                (at_map base_pass_id s.views id v at) (at_map base_pass_id s.views j u at_u) ours.0 live (name ∙ sym ours.1)))
                (λ same. old.first live name b ∙ sym (same b)) shifts;
            gone = old.gone;
          })

    -- One base's lock is other than before too.
    module _ (b word : ℕ) (slot : mathlib.Core.Option.Option (Option BaseContent)) (inside : b < o.bases) (rises : slice_index s.words (lock_at b) ≤ word)
        (all : HasAll (Hold b)) (slot_is : slot ≡ slot_of (word % 2) (w.bases b)) (fits : PassHolds o log (set s.words (lock_at b) word) v')
        (change : (x : Token) → IsIn o x → has o x v' + owed w s.words x ≡ has o x v + owed w (set s.words (lock_at b) word) x) where
      word_else : (k : ℕ) → k ≢ lock_at b → slice_index (set s.words (lock_at b) word) k ≡ slice_index s.words k
      word_else k n = get_or-set_other s.words (lock_at b) k word 0 n

      each_lock : (P : ℕ → ℕ → Type 0) → P b word → ((c : ℕ) → c ≢ b → P c (slice_index s.words (lock_at c)))
          → (c : ℕ) → P c (slice_index (set s.words (lock_at b) word) (lock_at c))
      each_lock P = at_lock s.words b word P (omega (arith, home.words_len))

      pub locked : RowHolds o log record {
        words = slice_set s.words (lock_at b) word;
        homes = slice_set s.homes b slot;
        views = slice_set s.views id v';
      }
      locked = record {
        allowed = home.allowed;
        words_len = length-set s.words (lock_at b) word ∙ home.words_len;
        homes_len = length-set s.homes b slot ∙ home.homes_len;
        each_slot = each_lock (λ c x. c < o.bases → get_elem? (set s.homes b slot) c ≡ some (slot_of (x % 2) (w.bases c)))
            (λ h. set_here s.homes b slot (omega (arith, home.homes_len)) ∙ ap some slot_is) (λ c n h. set_else s.homes b c slot n ∙ home.each_slot c h);
        each_timer = λ t h. word_else (word_at o.bases t) (λ e. omega arith) ∙ home.each_timer t h;
        each_standing = λ c h. word_else (word_at o.bases (base_place (length o.timers) c)) (λ e. omega arith) ∙ home.each_standing c h;
        each_counter = λ k h. word_else (counter_at k) (λ e. omega arith) ∙ home.each_counter k h;
        no_counter = home.no_counter;
        rings = home.rings;
        counters_len = home.counters_len;
        each_view = fits_on log (set s.words (lock_at b) word) (begins_refl log)
            (λ c h. each_lock (λ q x. slice_index s.words (lock_at q) ≤ x) rises (λ q n. omega arith) c)
            (λ c h. each_lock (λ q x. HasAll (Hold q) ⊎ ((w.bases q ≡ w.bases q) × (x ≡ slice_index s.words (lock_at q)))) (inl all) (λ q n. inr (refl, refl)) c)
            (λ t. inr refl) (inr (λ c. refl)) fits;
        tree = kept_tree;
        tokens = counted log (set s.words (lock_at b) word) (begins_refl log) change;
      }

  -- One seat is other than before, and one came.
  module _ (id : ℕ) (v v' u : BaseView BaseContent) (at : get_elem? s.views id ≡ some v) (fits : PassHolds o log s.words v')
      (fits_new : PassHolds o log s.words u)
      (tree : IsPassTree (set (map base_pass_id s.views) id (base_pass_id v') ++ base_pass_id u ∷ []))
      (same : (x : Token) → has o x v' + has o x u ≡ has o x v) where
    pub grown : RowHolds o log record { words = s.words; homes = s.homes; views = slice_set s.views id v' ++ u ∷ [] }
    grown =
        reviewed (slice_set s.views id v' ++ u ∷ [])
        (λ x. total_grown (has o x) s.views id v v' u at (same x))
        (λ j x q. ⊎_elim
        (λ t. all_set (λ y. PassHolds o log s.words y) s.views id v' fits (λ i y n e. home.each_view i y e) j x t)
        (λ t. subst (λ y. PassHolds o log s.words y) t fits_new)
        (at_snoc (set s.views id v') u x j q))
        (subst (λ ls. IsPassTree ls) (sym (map-append base_pass_id (set s.views id v') (u ∷ [])
        ∙ ap (λ ls. ls ++ base_pass_id u ∷ []) (map-set base_pass_id s.views id v'))) tree)

  -- One seat has taken in another.
  module _ (id other : ℕ) (v v' u u' : BaseView BaseContent) (at : get_elem? s.views id ≡ some v) (at_other : get_elem? (set s.views id v') other ≡ some u)
      (fits : PassHolds o log s.words v') (fits_left : PassHolds o log s.words u')
      (tree : IsPassTree (set (set (map base_pass_id s.views) id (base_pass_id v')) other (base_pass_id u')))
      (same : (x : Token) → has o x v' + has o x u' ≡ has o x v + has o x u) where
    pub merged : RowHolds o log record { words = s.words; homes = s.homes; views = slice_set (slice_set s.views id v') other u' }
    merged =
        reviewed (slice_set (slice_set s.views id v') other u')
        (λ x. total_merged (has o x) s.views id other v v' u u' at at_other (same x))
        (all_set (λ y. PassHolds o log s.words y) (set s.views id v') other u' fits_left
        (λ j x n q. all_set (λ y. PassHolds o log s.words y) s.views id v' fits (λ i y m e. home.each_view i y e) j x q))
        (subst (λ ls. IsPassTree ls) (sym (map-set base_pass_id (set s.views id v') other u'
        ∙ ap (λ ls. set ls other (base_pass_id u')) (map-set base_pass_id s.views id v'))) tree)
