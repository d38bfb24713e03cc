use Rattle.std.proofs.Common.{ltb, arith, rules}
use Rattle.std.proofs.lemmas.List.Sorted.{IsPartitionedBy-ltb, IsPartitionPoint-from_clause}
use Rattle.std.proofs.lemmas.Bool.Decides.{nat_tests}
use Rattle.diff_map.proofs.Images.{images_rise}
use Rattle.diff_map.proofs.counts.place_from.Goals as goal

pub returns-clause-before : goal.returns-clause-before
returns-clause-before c =
    let point = IsPartitionPoint-from_clause (λ image. ltb image c.args.set) _ _ c.partition_point.ensures.partitioned (IsPartitionedBy-ltb (λ image. image) _ c.args.set (images_rise _ c.requires))
    (λ a r q k. search rules) in
    λ k d low high. let h = point.0 k d low high in grind (arith, nat_tests)

pub returns-clause-onward : goal.returns-clause-onward
returns-clause-onward c =
    let point = IsPartitionPoint-from_clause (λ image. ltb image c.args.set) _ _ c.partition_point.ensures.partitioned (IsPartitionedBy-ltb (λ image. image) _ c.args.set (images_rise _ c.requires))
    (λ a r q k. search rules) in
    λ k d low high. let h = point.1 k d low high in grind (arith, nat_tests)
