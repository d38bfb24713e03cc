-- An agenda as it begins, and what becomes of the groups that are left when members of the open group are done. (This project's own.)
use Rattle.std.specs.List.{flat_map, range_with_len}
use Rattle.std.specs.Prelude.{ℕ, Bool, true, List, [], ◌∷◌, ◌==◌, ◌&&◌, filter, not, false}
use Rattle.vss_names.specs.declared.order.Order.TheVariants.{PostSnapshot}
use Rattle.set_agenda.specs.Agenda.{Agenda, is_among, Open, is_orders, with_group}
use Rattle.set_agenda.specs.declared.group.Group.{Group}
use Rattle.set_agenda.specs.declared.group.Group.TheVariants.{Orders}
use Rattle.set_agenda.specs.declared.kind.Kind.{Kind}
use Rattle.set_agenda.specs.declared.member.Member.{Member}

-- ## An agenda as it begins: nothing is said yet, and each group of writers asks its members in the order of the
-- writers' numbers. (This project's own.)

-- none comes twice
abbrev pub are_distinct : List ℕ → Bool
are_distinct [] = true
are_distinct (x ∷ xs) = not (is_among x xs) && are_distinct xs

-- the members in the order of their writers, all of which are below 64
unfoldable pub by_writer : List Member → List Member
by_writer ms = flat_map (λ w. filter (λ (m : Member). m.writer == w) ms) (range_with_len 0 64)

abbrev pub unspoken : Kind → List Member → List ℕ → ℕ → Agenda
unspoken k ms vs now = record { kind = k; members = ms; volumes = vs; begun = now; log = [] }

-- ## What becomes of the groups that are left when members of the open group are done: they are waited for no longer, a
-- group without anybody to wait for is closed, and writers that fail are not asked at PostSnapshot. (This project's
-- own.)

-- the list without these
abbrev pub others : List ℕ → List ℕ → List ℕ
others whos xs = filter (λ x. not (is_among x whos)) xs

abbrev pub others_if : Bool → List ℕ → List ℕ → List ℕ
others_if true whos xs = others whos xs
others_if false whos xs = xs

-- whether a group asks those alone that have not failed
abbrev pub asks_unfailed : Group → Bool
asks_unfailed (Orders PostSnapshot) = true
asks_unfailed _ = false

-- these have failed, so PostSnapshot does not ask them
abbrev pub unasked : List ℕ → List Open → List Open
unasked whos [] = []
unasked whos (o ∷ os) = with_group o.place (others_if (asks_unfailed o.place.group) whos o.waits) (unasked whos os)

abbrev pub unasked_if : Bool → List ℕ → List Open → List Open
unasked_if true whos os = unasked whos os
unasked_if false whos os = os

-- these members of the open group are done, or as writers have failed
abbrev pub advance : List ℕ → Bool → List Open → List Open
advance whos failed [] = []
advance whos failed (o ∷ os) = with_group o.place (others whos o.waits) (unasked_if (is_orders o.place.group && failed) whos os)
