mod NoRecords
mod PiecesMade
