-- What is kept of a merge, as the definition has it.
use Rattle.std.specs.Prelude.{true, false, List, [], map, ℕ, ◌*◌, ℤ, pos, take, Option, Some, None, Ok, Err}
use Rattle.std.proofs.Math.Option as maybe
use Rattle.std.specs.declared.result.Result.{Result}
use Rattle.lattices.specs.Vector.{Vec}
use Rattle.lattices.specs.Refusal.{vectors_of}
use Rattle.catalogue_rules.specs.Catalogue as definition
use Rattle.catalogue_rules.specs.Catalogue.{new}
use Rattle.catalogue_rules.specs.Form.{placed}
use Rattle.refusals.specs.declared.Refused.{Refused}
use Rattle.refusals.specs.Number.{number_of}
use Rattle.catalogue_records.specs.declared.Form.TheVariants.{New}
use Rattle.catalogue_records.specs.declared.Entry as code
use Rattle.catalogue_records.specs.declared.See.{See}
use Rattle.merge_rules.specs.Merge as rules
use Rattle.merges.specs.declared.Vectors.{Vectors}
use Rattle.merges.specs.declared.Item.{Item}
use Rattle.merges.specs.declared.Merge.{Merge}
use Rattle.merges.specs.declared.Answer.{Answer}
use Rattle.merges.specs.declared.Answer.TheVariants.{Done, Provisional, Final, NotYet}
use Rattle.merges.specs.declared.Said.{Said}

-- ---- an entry

-- what an array of items gives beyond its end
abbrev pub no_item : Item
no_item = record { number = 0; draft = false; see = None; vectors = record { d = 0; m = 0; coordinates = [] }; shortest = pos 0; first = 0 }

abbrev pub vectors_in : Vectors → List Vec
vectors_in v = vectors_of v.d v.m (take (v.d * v.m) v.coordinates)

-- the see word that names a number, or none, at a place
abbrev pub word_in : ℕ → Option ℕ → maybe.Option definition.See
word_in p (Some n) = maybe.some (record { number = n; place = p })
word_in p None = maybe.none

abbrev pub stored_word : ℕ → Option ℕ → Option See
stored_word p (Some n) = Some (record { number = n; place = p })
stored_word p None = None

-- the number that a see word names
abbrev pub named_in : Option See → Option ℕ
named_in (Some s) = Some s.number
named_in None = None

-- the entry, at place 0
abbrev pub item_in : Item → definition.Entry
item_in i = record {
  head = record { form = new; number = i.number; d = i.vectors.d; m = i.vectors.m; place = 0 };
  vectors = vectors_in i.vectors;
  draft = i.draft;
  see = word_in 0 i.see;
}

-- the same as it is stored of a file
abbrev pub entry_from : Item → ℕ → ℕ → code.Entry
entry_from i place past = record {
  form = New;
  number = i.number;
  d = i.vectors.d;
  m = i.vectors.m;
  place = place;
  draft = i.draft;
  see = stored_word past i.see;
  coordinates = i.vectors.coordinates;
}

-- what is kept of an entry that was read
abbrev pub item_of : code.Entry → ℤ → ℕ → Item
item_of e shortest first = record {
  number = e.number;
  draft = e.draft;
  see = named_in e.see;
  vectors = record { d = e.d; m = e.m; coordinates = e.coordinates };
  shortest = shortest;
  first = first;
}

-- ---- the merge

abbrev pub items_in : Merge → List definition.Entry
items_in s = map item_in (take s.count s.items)

-- all entries, each at its place in their file
abbrev pub merge_in : Merge → rules.Merge
merge_in s = record { closed = s.closed; entries = placed 0 (items_in s) }

abbrev pub answer_in : Result Answer Refused → rules.Answer
answer_in (Ok Done) = rules.done
answer_in (Ok (Provisional s)) = rules.provisional s
answer_in (Ok (Final s)) = rules.final s
answer_in (Ok NotYet) = rules.not_yet
answer_in (Err r) = rules.refused_at (number_of r.refusal) r.place

abbrev pub said_in : Said → rules.Said
said_in r = record { merge = merge_in r.merge; answer = answer_in r.answer }

-- the same, closed
abbrev pub shut_of : Merge → Merge
shut_of s = record { closed = true; count = s.count; items = s.items }
