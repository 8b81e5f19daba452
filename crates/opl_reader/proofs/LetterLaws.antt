-- The tables say what each letter means.
use Rattle.std.proofs.Common.{◌≡◌, ◌≢◌, ℕ, List, ◌∷◌, drop, Option, refl, sym, ap, ◌∙◌, inl, inr}
use Rattle.std.specs.Prelude.{option_and_then}
use Rattle.std.proofs.lemmas.Bool.{cases_eq, eq-eqb, ne_eqb}
use Rattle.osm_tables.specs.declared.Row.{Row}
use Rattle.osm_tables.specs.declared.TheConstants.{NODE_FIELDS, WAY_FIELDS, RELATION_FIELDS}
use Rattle.osm_tables.specs.Tables.{code_of}
use Rattle.osm_elements.specs.declared.object.ObjectKind.{ObjectKind}
use Rattle.osm_elements.specs.declared.object.ObjectKind.TheVariants.{Node, Way, Relation}
use Rattle.opl_reader.specs.declared.field.Meaning.{Meaning}
use Rattle.opl_reader.specs.Fields.{letter_of}
use Rattle.opl_reader.specs.Letters.{table_of, meaning_of}

-- the next row has the key, or the other rows decide
row : (f : ℕ → Option Meaning) (key k c : ℕ) (rows : List Row) → f k ≡ meaning_of c → (key ≢ k → f key ≡ option_and_then meaning_of (code_of rows key))
    → f key ≡ option_and_then meaning_of (code_of (record { key = k; code = c } ∷ rows) key)
row f key k c rows here others =
    elim (cases_eq k key) [
      | inl e ↦ rw (eq-eqb k key e) (ap f (sym e) ∙ here)
      | inr ne ↦ rw (ne_eqb k key ne) (others (λ e. ne (sym e)))
    ]

node : (key : ℕ) → letter_of Node key ≡ option_and_then meaning_of (code_of (table_of Node) key)
unfolding letter_of
node key =
    let f : ℕ → Option Meaning = letter_of Node in
    row f key 68 0 (drop 1 NODE_FIELDS) refl (λ h0.
    row f key 84 1 (drop 2 NODE_FIELDS) refl (λ h1.
    row f key 99 2 (drop 3 NODE_FIELDS) refl (λ h2.
    row f key 100 3 (drop 4 NODE_FIELDS) refl (λ h3.
    row f key 105 4 (drop 5 NODE_FIELDS) refl (λ h4.
    row f key 116 5 (drop 6 NODE_FIELDS) refl (λ h5.
    row f key 117 6 (drop 7 NODE_FIELDS) refl (λ h6.
    row f key 118 7 (drop 8 NODE_FIELDS) refl (λ h7.
    row f key 120 8 (drop 9 NODE_FIELDS) refl (λ h8.
    row f key 121 9 (drop 10 NODE_FIELDS) refl (λ h9.
    rw (ne_eqb key 84 h1, ne_eqb key 99 h2, ne_eqb key 100 h3, ne_eqb key 105 h4, ne_eqb key 116 h5, ne_eqb key 117 h6, ne_eqb key 118 h7, ne_eqb key 120 h8, ne_eqb key 121 h9) refl))))))))))

way : (key : ℕ) → letter_of Way key ≡ option_and_then meaning_of (code_of (table_of Way) key)
unfolding letter_of
way key =
    let f : ℕ → Option Meaning = letter_of Way in
    row f key 78 10 (drop 1 WAY_FIELDS) refl (λ h0.
    row f key 84 1 (drop 2 WAY_FIELDS) refl (λ h1.
    row f key 99 2 (drop 3 WAY_FIELDS) refl (λ h2.
    row f key 100 3 (drop 4 WAY_FIELDS) refl (λ h3.
    row f key 105 4 (drop 5 WAY_FIELDS) refl (λ h4.
    row f key 116 5 (drop 6 WAY_FIELDS) refl (λ h5.
    row f key 117 6 (drop 7 WAY_FIELDS) refl (λ h6.
    row f key 118 7 (drop 8 WAY_FIELDS) refl (λ h7.
    rw (ne_eqb key 78 h0, ne_eqb key 84 h1, ne_eqb key 99 h2, ne_eqb key 100 h3, ne_eqb key 105 h4, ne_eqb key 116 h5, ne_eqb key 117 h6, ne_eqb key 118 h7) refl))))))))

relation : (key : ℕ) → letter_of Relation key ≡ option_and_then meaning_of (code_of (table_of Relation) key)
unfolding letter_of
relation key =
    let f : ℕ → Option Meaning = letter_of Relation in
    row f key 77 11 (drop 1 RELATION_FIELDS) refl (λ h0.
    row f key 84 1 (drop 2 RELATION_FIELDS) refl (λ h1.
    row f key 99 2 (drop 3 RELATION_FIELDS) refl (λ h2.
    row f key 100 3 (drop 4 RELATION_FIELDS) refl (λ h3.
    row f key 105 4 (drop 5 RELATION_FIELDS) refl (λ h4.
    row f key 116 5 (drop 6 RELATION_FIELDS) refl (λ h5.
    row f key 117 6 (drop 7 RELATION_FIELDS) refl (λ h6.
    row f key 118 7 (drop 8 RELATION_FIELDS) refl (λ h7.
    rw (ne_eqb key 77 h0, ne_eqb key 84 h1, ne_eqb key 99 h2, ne_eqb key 100 h3, ne_eqb key 105 h4, ne_eqb key 116 h5, ne_eqb key 117 h6, ne_eqb key 118 h7) refl))))))))

pub by_table : (kind : ObjectKind) (letter : ℕ) → letter_of kind letter ≡ option_and_then meaning_of (code_of (table_of kind) letter)
by_table Node letter = node letter
by_table Way letter = way letter
by_table Relation letter = relation letter
