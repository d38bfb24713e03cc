-- What is seen of the outside: the source, the sink and the maker before the call and after it. (This project's own.)
use Rattle.std.specs.Prelude.{ℕ, ◌≡◌, List, Option}
use Rattle.io_edge.specs.declared.sink.Sink.{Ghosts as SinkGhosts}
use Rattle.io_edge.specs.declared.source.Source.{Ghosts as SourceGhosts}
use Rattle.volume_device.specs.declared.maker.Maker.{Ghosts as MakerGhosts}

-- the maker before the call and after it: which devices it made, which it got back, and how many of its calls failed
pub record AroundMaker (D : Type 0) : Type 0 where
  pub named_first : Option (List (List ℕ))
  pub named_last : Option (List (List ℕ))
  pub kept_first : Option (List D)
  pub kept_last : Option (List D)
  pub count_first : ℕ
  pub count_last : ℕ

abbrev pub around_maker : {M D : Type 0} → MakerGhosts M D → M → M → AroundMaker D
around_maker maker m n = record {
  named_first = maker.named m;
  named_last = maker.named n;
  kept_first = maker.kept m;
  kept_last = maker.kept n;
  count_first = maker.count m;
  count_last = maker.count n;
}

-- the sink too: what it took, and how many of its calls failed
pub record SinkAndMaker (D : Type 0) : Type 0 where
  pub taken_first : Option (List ℕ)
  pub taken_last : Option (List ℕ)
  pub writes_first : ℕ
  pub writes_last : ℕ
  pub maker : AroundMaker D

abbrev pub sink_and_maker : {K M D : Type 0} → SinkGhosts K → MakerGhosts M D → K → K → M → M → SinkAndMaker D
sink_and_maker sink maker k l m n = record {
  taken_first = sink.taken k;
  taken_last = sink.taken l;
  writes_first = sink.count k;
  writes_last = sink.count l;
  maker = around_maker maker m n;
}

-- the source too: what is left of it, and how many of its calls failed
pub record Around (D : Type 0) : Type 0 where
  pub left_first : Option (List ℕ)
  pub left_last : Option (List ℕ)
  pub reads_first : ℕ
  pub reads_last : ℕ
  pub out : SinkAndMaker D

abbrev pub around : {S K M D : Type 0} → SourceGhosts S → SinkGhosts K → MakerGhosts M D → S → S → K → K → M → M → Around D
around source sink maker s t k l m n = record {
  left_first = source.left s;
  left_last = source.left t;
  reads_first = source.count s;
  reads_last = source.count t;
  out = sink_and_maker sink maker k l m n;
}

-- nothing was written
pub record IsUnwritten {D : Type 0} (o : SinkAndMaker D) : Type 0 where
  pub taken : o.taken_last ≡ o.taken_first
  pub writes : o.writes_last ≡ o.writes_first

-- no device was made
pub record IsUnmade {D : Type 0} (a : AroundMaker D) : Type 0 where
  pub named : a.named_last ≡ a.named_first
  pub kept : a.kept_last ≡ a.kept_first
  pub count : a.count_last ≡ a.count_first
