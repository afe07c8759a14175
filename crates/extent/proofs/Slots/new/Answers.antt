use Rattle.std.proofs.Common.{rules}
use Rattle.extent.specs.Room.Laws.{zeros}
use Rattle.extent.proofs.Slots.new.Goals as goal

pub returns : goal.returns
returns c = record {
  room = search rules;
  nodes = record { kinds = zeros 1024; checks = zeros 1024; privileged = zeros 1024; entries = zeros 1024; grants = zeros 1024 };
  edges = record { froms = zeros 4096; tos = zeros 4096; ways = zeros 4096 };
}
