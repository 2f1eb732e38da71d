-- The limits of a graph of modes, as it is filled. Assumes nothing.
use Rattle.std.proofs.Common.{◌≡◌, ℕ, zero, suc, ◌+◌, ◌-◌, ◌*◌, ◌<◌, ◌≤◌, Bool, true, false, cond, not, ◌&&◌, ◌||◌, eqb, List, [], ◌∷◌, ◌++◌, length, get_or, take, set, replicate, is_some, is_ok, Some, None, Ok, Err, vec_items, vec_len, Decides, Option, sym, refl, ap, ◌∙◌, subst, inl, inr, add-one, arith, length-set, length-take-le, get_or-set_other, get_or-set_same}
use Rattle.std.specs.List.{list_any, list_all}
use Rattle.std.proofs.Math.Bool.{or_comm, and_comm}
use Rattle.std.proofs.lemmas.List.Folds.{list_any_more, list_all_more}
use Rattle.std.proofs.lemmas.List.{take_all, get_or_append_left, get_or_push, get_or_read, length_push}
use Rattle.std.proofs.lemmas.Bool.{and_parts, and_from, cond-true, cases_eq, eqb-false, ne_eqb, not-true, not_from_false, ltb-true, leb-true, lt-ltb, le-leb}
use Rattle.std.proofs.lemmas.Bool.Decides.{Decides-at, Decides-below_and, Decides-below_or, nat_tests}
use Rattle.line.specs.declared.refusal.Refusal.TheVariants.{NoLinkOut}
use Rattle.line.specs.Meaning.{Graph}
use Rattle.line.specs.Lawful.{GraphLaws}
use Rattle.line.specs.Answers.{Answer}
use Rattle.line.specs.Rows.{cells, AllRows}
use Rattle.modes.specs.Plans.{Plan, blank, graph_of, gap_at, add_answer, leads_out, all_lead_out, whole_answer, Whole, right_mode, right_gap, RightModes, RightGaps}
use Rattle.modes.specs.Graphs.{plan}
use Rattle.line.proofs.Rows.{length-cells, cell_at, set_cell, set_row}
use Rattle.modes.specs.declared.graph.Mode.{Mode}
use Rattle.modes.specs.declared.graph.ModeGraph.{ModeGraph}

-- What the two tests tell.
mode_limits : (m : Mode) → right_mode m ≡ true → (1 ≤ m.cost) × (m.cost ≤ m.deadline) × (m.deadline ≤ 1000)
mode_limits m h =
    let p = and_parts _ _ h in
    let q = and_parts _ _ p.1 in
    (ltb-true _ _ p.0, leb-true _ _ q.0, leb-true _ _ q.1)

gap_limits : (modes : List Mode) (a b g : ℕ) → right_gap modes a b (Some g) ≡ true
    → (a < length modes) × (b < length modes) × ((get_or modes a blank).deadline ≤ g) × (g ≤ 100000)
gap_limits modes a b g h =
    let p = and_parts _ _ h in
    let q = and_parts _ _ p.1 in
    let r = and_parts _ _ q.1 in
    (ltb-true _ _ p.0, ltb-true _ _ q.0, leb-true _ _ r.0, leb-true _ _ r.1)

-- A graph of modes that keeps them, and has a mode, keeps the limits of a line's graph.
pub right_laws : (p : Plan) → 1 ≤ length p.modes → length p.modes ≤ 16 → RightModes p.modes → RightGaps p.modes p.gaps → GraphLaws (graph_of p)
right_laws p some few modes gaps = record {
  some_mode = some;
  few_modes = few;
  some_cost = λ i h. (mode_limits (get_or p.modes i blank) (modes i h)).0;
  cost_fits = λ i h. (mode_limits (get_or p.modes i blank) (modes i h)).1;
  deadline_fits = λ i h. (mode_limits (get_or p.modes i blank) (modes i h)).2;
  gap_least = λ i j g hi hj e. (gap_limits p.modes i j g (ap (right_gap p.modes i j) (sym e) ∙ gaps i j (omega arith))).2;
  gap_most = λ i j g hi hj e. (gap_limits p.modes i j g (ap (right_gap p.modes i j) (sym e) ∙ gaps i j (omega arith))).3;
}

pub graph_laws : (g : ModeGraph) → 1 ≤ length (plan g).modes → GraphLaws (graph_of (plan g))
graph_laws g some = right_laws (plan g) some (omega (arith, g.few, g.modes.ok.0)) g.limits g.links

-- ---- a new graph, and a mode that is added
pub empty_gap : (n k : ℕ) → get_or {A = Option ℕ} (replicate n None) k None ≡ None
empty_gap zero k = refl
empty_gap (suc n) zero = refl
empty_gap (suc n) (suc k) = empty_gap n k

pub empty_gaps : (modes : List Mode) (gaps : List (Option ℕ)) → gaps ≡ replicate 256 None → RightGaps modes gaps
empty_gaps modes gaps e a b h = ap (right_gap modes a b) (ap (λ gs. get_or gs (a * 16 + b) None) e ∙ empty_gap 256 (a * 16 + b))

added_modes : (modes : List Mode) (m : Mode) → RightModes modes → right_mode m ≡ true → RightModes (modes ++ m ∷ [])
added_modes modes m old new i h = elim (cases_eq i (length modes)) [
  | inl e ↦ ap right_mode (get_or_push modes m blank i (sym e)) ∙ new
  | inr n ↦
      let lt : i < length modes = omega (arith, length_push modes m) in
      ap right_mode (get_or_append_left modes (m ∷ []) blank i lt) ∙ old i lt
]

-- A mode that may be added is right, and there is room for it.
pub add_passed : (p : Plan) (cost deadline : ℕ) (u : Unit {0}) → Ok u ≡ add_answer p cost deadline
    → (right_mode (record { cost = cost; deadline = deadline }) ≡ true) × (length p.modes < 16)
add_passed p cost deadline u e = (grind (arith, nat_tests), grind (arith, nat_tests))

-- A gap that was right stays so.
gap_stays : (modes : List Mode) (m : Mode) (a b : ℕ) (o : Option ℕ) → right_gap modes a b o ≡ true → right_gap (modes ++ m ∷ []) a b o ≡ true
gap_stays modes m a b None h = refl
gap_stays modes m a b (Some g) h =
    let l = gap_limits modes a b g h in
    let n = length_push modes m in
    let d : (get_or (modes ++ m ∷ []) a blank).deadline ≤ g = rw (get_or_append_left modes (m ∷ []) blank a l.0) l.2 in
    let la : a < length (modes ++ m ∷ []) = omega (arith, n, l.0) in
    let lb : b < length (modes ++ m ∷ []) = omega (arith, n, l.1) in
    and_from _ _ (lt-ltb _ _ la) (and_from _ _ (lt-ltb _ _ lb) (and_from _ _ (le-leb _ _ d) (le-leb _ _ l.3)))

added_gaps : (modes : List Mode) (m : Mode) (gaps : List (Option ℕ)) → RightGaps modes gaps → RightGaps (modes ++ m ∷ []) gaps
added_gaps modes m gaps old a b h = gap_stays modes m a b (get_or gaps (a * 16 + b) None) (old a b h)

pub added_right : (modes after : List Mode) (m : Mode) (gaps : List (Option ℕ)) → after ≡ modes ++ m ∷ [] → right_mode m ≡ true → RightModes modes → RightGaps modes gaps
    → RightModes after × RightGaps after gaps
added_right modes after m gaps e right old links = (
  subst RightModes (sym e) (added_modes modes m old right),
  subst (λ xs. RightGaps xs gaps) (sym e) (added_gaps modes m gaps links),
)

-- ---- a gap that is written
pub set_right : (modes : List Mode) (gaps : List (Option ℕ)) (from to : ℕ) (gap : Option ℕ) → from < 16 → to < 16 → length gaps ≡ 256 → RightGaps modes gaps → right_gap modes from to gap ≡ true
    → RightGaps modes (set gaps (from * 16 + to) gap)
set_right modes gaps from to gap lf lt long right h a b lb = elim (cases_eq (a * 16 + b) (from * 16 + to)) [
  | inl e ↦
      let ea : a ≡ from = omega (arith, e) in
      let eb : b ≡ to = omega (arith, e) in
      let in_row : from * 16 + to < length gaps = omega arith in
      let at : get_or (set gaps (from * 16 + to) gap) (a * 16 + b) None ≡ gap = ap (λ k. get_or (set gaps (from * 16 + to) gap) k None) e ∙ get_or-set_same gaps (from * 16 + to) gap None in_row in
      ap (right_gap modes a b) at ∙ ap (λ x. right_gap modes x b gap) ea ∙ ap (λ x. right_gap modes from x gap) eb ∙ h
  | inr n ↦ ap (right_gap modes a b) (get_or-set_other gaps (from * 16 + to) (a * 16 + b) gap None n) ∙ right a b lb
]

-- ---- links out
-- There is a row for each mode.
pub tall : (g : ModeGraph) → vec_len g.gaps ≡ 16
tall g = omega (arith, length-cells (vec_items g.gaps) g.rows, g.square, g.gaps.ok.0)

-- So there are as many rows in front as there are modes, or fewer.
pub rows_there : (g : ModeGraph) (n : ℕ) (rows : List (List (Option ℕ))) → n ≤ vec_len g.modes → rows ≡ vec_items g.gaps → n ≡ length (take n rows)
rows_there g n rows few e = sym (length-take-le n rows (omega (arith, tall g, g.few, g.gaps.ok.0, ap length e)))

-- A row has a gap just if its mode has a link to one of the modes.
module _ (G : Graph) (a : ℕ) (row : List (Option ℕ)) (long : length row ≡ 16) (same : (b : ℕ) → b < 16 → get_or row b None ≡ G.gap a b) where
  row_leads : (k : ℕ) → k ≤ 16 → list_any is_some (take k row) ≡ leads_out G a k
  row_leads zero h = refl
  row_leads (suc k) h =
      let within : k < length row = omega arith in
      ap (λ n. list_any is_some (take n row)) (sym (add-one k)) ∙ list_any_more is_some row k None within
      ∙ or_comm (list_any is_some (take k row)) (is_some (get_or row k None))
      ∙ ap (λ b. b || list_any is_some (take k row)) (ap is_some (same k (omega arith))) ∙ ap (λ b. is_some (G.gap a k) || b) (row_leads k (omega arith))

  beyond : (k n : ℕ) → k ≡ G.modes + n → k ≤ 16 → ((b : ℕ) → G.modes ≤ b → b < 16 → is_some (G.gap a b) ≡ false) → leads_out G a k ≡ leads_out G a G.modes
  beyond k zero e h none = ap (leads_out G a) (omega (arith, e))
  beyond k (suc n) e h none =
      let s : k ≡ suc (G.modes + n) = omega (arith, e) in
      ap (leads_out G a) s ∙ ap (λ b. b || leads_out G a (G.modes + n)) (none (G.modes + n) (omega arith) (omega arith)) ∙ beyond (G.modes + n) n refl (omega arith) none

  pub row_all : G.modes ≤ 16 → ((b : ℕ) → G.modes ≤ b → b < 16 → is_some (G.gap a b) ≡ false) → list_any is_some row ≡ leads_out G a G.modes
  row_all few none = ap (list_any is_some) (sym (take_all 16 row (omega (arith, long)))) ∙ row_leads 16 (omega arith) ∙ beyond 16 (16 - G.modes) (omega (arith, few)) (omega arith) none

-- No gap leads past the last mode.
no_gap : (modes : List Mode) (a b : ℕ) (o : Option ℕ) → right_gap modes a b o ≡ true → length modes ≤ b → is_some o ≡ false
no_gap modes a b None h past = refl
no_gap modes a b (Some g) h past = absurd (omega (arith, past, (gap_limits modes a b g h).1))

-- Each of the first rows has a gap just if each of the first modes has a link out.
module _ (g : ModeGraph) where
  abbrev G : Graph
  G = graph_of (plan g)

  few : G.modes ≤ 16
  few = omega (arith, g.few, g.modes.ok.0)

  row_at : (k : ℕ) → k < 16 → list_any is_some (get_or (vec_items g.gaps) k []) ≡ leads_out G k G.modes
  row_at k h =
      let within : k < length (vec_items g.gaps) = omega (arith, tall g, g.gaps.ok.0) in
      row_all G k (get_or (vec_items g.gaps) k []) (g.rows k within) (λ b lb. sym (cell_at (vec_items g.gaps) g.rows k b None within lb)) few
      (λ b past lb. no_gap (plan g).modes k b (G.gap k b) (g.links k b lb) past)

  pub rows_lead : (k : ℕ) → k ≤ G.modes → list_all (list_any is_some) (take k (vec_items g.gaps)) ≡ all_lead_out G k
  rows_lead zero h = refl
  rows_lead (suc k) h =
      let within : k < length (vec_items g.gaps) = omega (arith, tall g, g.gaps.ok.0, few) in
      let row : List (Option ℕ) = get_or (vec_items g.gaps) k [] in
      ap (λ n. list_all (list_any is_some) (take n (vec_items g.gaps))) (sym (add-one k)) ∙ list_all_more (list_any is_some) (vec_items g.gaps) k [] within
      ∙ and_comm (list_all (list_any is_some) (take k (vec_items g.gaps))) (list_any is_some row)
      ∙ ap (λ b. b && list_all (list_any is_some) (take k (vec_items g.gaps))) (row_at k (omega (arith, few))) ∙ ap (λ b. leads_out G k G.modes && b) (rows_lead k (omega arith))

-- The test says what the law says.
decides_leads : (G : Graph) (a : ℕ) → Decides (leads_out G a G.modes) ((b : ℕ) × (b < G.modes) × (is_some (G.gap a b) ≡ true))
decides_leads G a = Decides-below_or (λ b. is_some (G.gap a b)) (λ b. is_some (G.gap a b) ≡ true) (leads_out G a) (λ b. (λ h. h, λ h. h)) refl (λ _. refl) G.modes

decides_all : (G : Graph) → Decides (all_lead_out G G.modes) ((a : ℕ) → a < G.modes → (b : ℕ) × (b < G.modes) × (is_some (G.gap a b) ≡ true))
decides_all G =
    Decides-below_and (λ a. leads_out G a G.modes) (λ a. (b : ℕ) × (b < G.modes) × (is_some (G.gap a b) ≡ true)) (all_lead_out G) (decides_leads G) refl (λ _. refl) G.modes

passes : (x y : Bool) → is_ok {T = Unit {0}} (cond (x || not y) (Err NoLinkOut) (Ok tt)) ≡ (not x && y)
passes true y = refl
passes false true = refl
passes false false = refl

whole_from : (G : Graph) → (not (eqb G.modes 0) && all_lead_out G G.modes) ≡ true → Whole G
whole_from G h =
    let q = and_parts (not (eqb G.modes 0)) (all_lead_out G G.modes) h in
    let ne = eqb-false G.modes 0 (not-true (eqb G.modes 0) q.0) in
    record { some_mode = omega (arith, ne); leads = (decides_all G).0 q.1 }

whole_to : (G : Graph) → Whole G → (not (eqb G.modes 0) && all_lead_out G G.modes) ≡ true
whole_to G h =
    let ne : eqb G.modes 0 ≡ false = ne_eqb G.modes 0 (λ e. omega (arith, e, h.some_mode)) in
    and_from (not (eqb G.modes 0)) (all_lead_out G G.modes) (not_from_false (eqb G.modes 0) ne) ((decides_all G).1 h.leads)

pub decides_whole : (p : Plan) → Decides (is_ok (whole_answer p)) (Whole (graph_of p))
decides_whole p =
    let e = passes (eqb (length p.modes) 0) (all_lead_out (graph_of p) (length p.modes)) in
    (λ h. whole_from (graph_of p) (sym e ∙ h), λ h. e ∙ whole_to (graph_of p) h)

-- An answer that is the check's has the law with it.
pub whole_law : (p : Plan) (r : Answer) → r ≡ whole_answer p → Decides (is_ok r) (Whole (graph_of p))
whole_law p r e = Decides-at _ _ (ap is_ok e) (decides_whole p)

-- Between two modes the graph has the gap that is asked for.
pub gap_between : (p : Plan) (a b : ℕ) → a < length p.modes → b < length p.modes → (graph_of p).gap a b ≡ gap_at p a b
gap_between p a b la lb = sym (cond-true _ _ _ (lt-ltb _ _ la) ∙ cond-true _ _ _ (lt-ltb _ _ lb))

-- What is read at the second mode in the row of the first is their gap.
pub gap_read : (g : ModeGraph) (a b : ℕ) (row : List (Option ℕ)) → a < 16 → b < 16 → row ≡ get_or (vec_items g.gaps) a row → get_or row b None ≡ (graph_of (plan g)).gap a b
gap_read g a b row la lb e =
    let within : a < length (vec_items g.gaps) = omega (arith, tall g, g.gaps.ok.0) in
    ap (λ (r : List (Option ℕ)). get_or r b None) (get_or_read (vec_items g.gaps) a row within e []) ∙ sym (cell_at (vec_items g.gaps) g.rows a b None within lb)

-- A gap that is written stands at its cell, and each row is as long as it was.
pub gap_written : (g : ModeGraph) (a b : ℕ) (row : List (Option ℕ)) (gap : Option ℕ) → a < 16 → b < 16 → row ≡ get_or (vec_items g.gaps) a row
    → (cells (set (vec_items g.gaps) a (set row b gap)) ≡ set (cells (vec_items g.gaps)) (a * 16 + b) gap) × AllRows (set (vec_items g.gaps) a (set row b gap))
gap_written g a b row gap la lb e =
    let rows = vec_items g.gaps in
    let within : a < length rows = omega (arith, tall g, g.gaps.ok.0) in
    let read : row ≡ get_or rows a [] = get_or_read rows a row within e [] in
    let long : length row ≡ 16 = ap length read ∙ g.rows a within in (
      ap (λ r. cells (set rows a (set r b gap))) read ∙ set_cell rows g.rows a b gap within lb,
      set_row rows g.rows a (set row b gap) (length-set row b gap ∙ long),
    )

-- A whole graph has a mode.
pub whole_some : (p : Plan) → whole_answer p ≡ Ok tt → 1 ≤ length p.modes
whole_some p h = grind (arith, nat_tests)
